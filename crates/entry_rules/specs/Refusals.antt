-- What is told of the rule that forbids an entry: its code and detail, and the error's word.
use Rattle.std.specs.Prelude.{ℕ, ◌++◌, List, codes}
use Rattle.std.specs.Fmt.{decimal}
use Rattle.hmac_jws.specs.declared.fault.JwsFault.{JwsFault}
use Rattle.hmac_jws.specs.declared.fault.JwsFault.TheVariants as jws
use Rattle.wif_claims.specs.declared.claims.ClaimFault.{ClaimFault}
use Rattle.wif_claims.specs.declared.claims.ClaimFault.TheVariants as claim
use Rattle.pools.specs.declared.fault.MapFault.{MapFault}
use Rattle.pools.specs.declared.fault.MapFault.TheVariants as map
use Rattle.entry_rules.specs.declared.fault.RuleCode.{RuleCode}
use Rattle.entry_rules.specs.declared.fault.RuleCode.TheVariants.{E11, E12, E14, E15, E16, E17, E18, E19, E20, E21, E22, E23, E24, E25}
use Rattle.entry_rules.specs.declared.fault.RuleCode.TheVariants.{I5, I8, I9, I10, I11, A4, A6}

-- the detail of a fault of a signature
abbrev pub jws_text : JwsFault → List ℕ
jws_text jws.Parts = codes "Parts"
jws_text (jws.Base64 part) = codes "Base64 " ++ decimal part
jws_text jws.Header = codes "Header"
jws_text jws.Alg = codes "Alg"
jws_text jws.Crit = codes "Crit"
jws_text jws.Mac = codes "Mac"
jws_text jws.Memory = codes "Memory"

-- the detail of a fault of claims
abbrev pub claim_text : ClaimFault → List ℕ
claim_text claim.Json = codes "Json"
claim_text claim.NotObject = codes "NotObject"
claim_text claim.Iss = codes "Iss"
claim_text claim.Aud = codes "Aud"
claim_text claim.Exp = codes "Exp"
claim_text claim.Nbf = codes "Nbf"
claim_text claim.Iat = codes "Iat"
claim_text claim.MayAct = codes "MayAct"
claim_text claim.Memory = codes "Memory"

-- the detail of a fault in what the claims give
abbrev pub map_text : MapFault → List ℕ
map_text map.Issuer = codes "Issuer"
map_text map.Audience = codes "Audience"
map_text map.Expired = codes "Expired"
map_text map.NotYet = codes "NotYet"
map_text map.Subject = codes "Subject"
map_text map.Groups = codes "Groups"
map_text (map.Attribute name) = codes "Attribute " ++ name
map_text (map.TooLong key) = codes "TooLong " ++ key
map_text map.ConditionError = codes "ConditionError"
map_text map.ConditionFalse = codes "ConditionFalse"
map_text map.Memory = codes "Memory"

-- the code of the rule, and the detail behind a space
abbrev pub rule_text : RuleCode → List ℕ
rule_text E11 = codes "E11"
rule_text (E12 rule) = codes "E12 Role " ++ decimal rule
rule_text E14 = codes "E14"
rule_text E15 = codes "E15"
rule_text (E16 fault) = codes "E16 " ++ jws_text fault
rule_text (E17 fault) = codes "E17 " ++ claim_text fault
rule_text (E18 fault) = codes "E18 " ++ map_text fault
rule_text (E19 fault) = codes "E19 " ++ map_text fault
rule_text (E20 fault) = codes "E20 " ++ map_text fault
rule_text E21 = codes "E21"
rule_text E22 = codes "E22"
rule_text E23 = codes "E23"
rule_text E24 = codes "E24"
rule_text E25 = codes "E25"
rule_text I5 = codes "I5"
rule_text (I8 hop) = codes "I8 " ++ decimal hop
rule_text (I9 hop) = codes "I9 " ++ decimal hop
rule_text I10 = codes "I10"
rule_text I11 = codes "I11"
rule_text A4 = codes "A4"
rule_text A6 = codes "A6"

-- the error's word (RFC 6749, section 5.2; RFC 8693, section 2.2.2), and that of an impersonation or a command
abbrev pub word_of : RuleCode → List ℕ
word_of E11 = codes "invalid_scope"
word_of E14 = codes "invalid_target"
word_of E15 = codes "invalid_target"
word_of I5 = codes "invalid_argument"
word_of (I8 hop) = codes "permission_denied"
word_of (I9 hop) = codes "permission_denied"
word_of I10 = codes "invalid_argument"
word_of I11 = codes "invalid_argument"
word_of A4 = codes "invalid_argument"
word_of A6 = codes "invalid_argument"
word_of (E12 rule) = codes "invalid_request"
word_of (E16 fault) = codes "invalid_request"
word_of (E17 fault) = codes "invalid_request"
word_of (E18 fault) = codes "invalid_request"
word_of (E19 fault) = codes "invalid_request"
word_of (E20 fault) = codes "invalid_request"
word_of E21 = codes "invalid_request"
word_of E22 = codes "invalid_request"
word_of E23 = codes "invalid_request"
word_of E24 = codes "invalid_request"
word_of E25 = codes "invalid_request"
