-- The replies of the service.
use Rattle.std.specs.Prelude.{ℕ, pos, ◌-◌, List, [], ◌++◌, codes, Option, None, Some, unwrap_or}
use Rattle.std.specs.Fmt.{decimal}
use Rattle.cel_builtins.specs.Timestamps.{moment_text}
use Rattle.serde_json.specs.Data.{Data, number, unsigned, string, object, member, no_members}
use Rattle.serde_json.specs.Written.{compact_text}
use Rattle.access_token.specs.Payload.{words_text, last_words}
use Rattle.exchange_form.specs.FormRules.{access_token_type}
use Rattle.links.specs.declared.recorded.RecordedLink.{RecordedLink}
use Rattle.links.specs.Prepared.{PreparedEntry}
use Rattle.wif_base.specs.declared.request.Reply.{Reply}
use Rattle.grant_gate.specs.declared.decision.Decision.{Decision}
use Rattle.grant_gate.specs.declared.decision.Decision.TheVariants.{Admit, Deny}
use Rattle.grant_gate.specs.declared.decision.GateRule.{GateRule}
use Rattle.grant_gate.specs.declared.decision.GateRule.TheVariants as gate

-- `{"error":WORD,"error_description":TEXT}`
abbrev pub refusal : ℕ → List ℕ → List ℕ → Reply
refusal status word text = record {
  status = status;
  body = codes "{\"error\":\"" ++ (word ++ (codes "\",\"error_description\":\"" ++ (text ++ codes "\"}")));
}

-- the bearer isn't the secret
abbrev pub u1 : Reply
u1 = refusal 401 (codes "invalid_token") (codes "U1")

-- a name or a value of the form isn't UTF-8
abbrev pub n1 : Reply
n1 = refusal 400 (codes "invalid_request") (codes "N1")

-- the token isn't there exactly once with a value
abbrev pub n2 : Reply
n2 = refusal 400 (codes "invalid_request") (codes "N2")

-- the body does not say what the path asks for
abbrev pub bad_argument : List ℕ → Reply
bad_argument text = refusal 400 (codes "invalid_argument") text

-- a command's body is no JSON object
abbrev pub a1 : Reply
a1 = bad_argument (codes "A1")

-- a path without a route
abbrev pub not_found : Reply
not_found = refusal 404 (codes "not_found") (codes "H4")

-- the journal has no room for the entry
abbrev pub journal_full : List ℕ → Reply
journal_full text = refusal 503 (codes "journal_full") text

-- a token that is not active (RFC 7662, section 2.2)
abbrev pub inactive : Reply
inactive = record { status = 200; body = codes "{\"active\":false}" }

-- ---- a token that is issued (RFC 8693, section 2.2.1)

-- the members of the reply to an exchange (RFC 8693, section 2.2.1)
unfoldable pub issued_data : List ℕ → ℕ → List ℕ → Data
issued_data token seconds scope = object (
    member (codes "access_token") (string token) (
    member (codes "expires_in") (number (unsigned seconds)) (
    member (codes "issued_token_type") (string access_token_type) (
    member (codes "scope") (string scope) (
    member (codes "token_type") (string (codes "Bearer")) no_members)))))

-- the token's text, how many seconds it lasts, and the words of its scope
abbrev pub token_reply : List ℕ → ℕ → List (List ℕ) → Reply
token_reply token seconds words = record { status = 200; body = compact_text (issued_data token seconds (words_text words)) }

-- the token lasts as long as its link, and its scope is the last list of words
abbrev pub issued_by : List ℕ → Option RecordedLink → Reply
issued_by token None = token_reply token 0 []
issued_by token (Some link) = token_reply token (link.facts.exp - link.facts.iat) (last_words link.facts.scopes)

-- the reply to an exchange that is recorded: its entry has a link with a token
unfoldable pub issued : PreparedEntry → Reply
issued prepared = issued_by (unwrap_or prepared.token []) prepared.recorded

-- ---- a service account's token

-- the token, and the moment at which it ends (RFC 3339)
unfoldable pub generated_data : List ℕ → List ℕ → Data
generated_data token time = object (
    member (codes "accessToken") (string token) (
    member (codes "expireTime") (string time) no_members))

-- the token's text, and the moment at which its link ends
abbrev pub generated_by : List ℕ → Option RecordedLink → Reply
generated_by token None = record { status = 200; body = compact_text (generated_data token (moment_text (pos 0))) }
generated_by token (Some link) = record { status = 200; body = compact_text (generated_data token (moment_text (pos link.facts.exp))) }

-- the reply to an impersonation that is recorded: its entry has a link with a token
unfoldable pub generated : PreparedEntry → Reply
generated prepared = generated_by (unwrap_or prepared.token []) prepared.recorded

-- ---- a command that is recorded: its entry's number, counted from 0

-- the number of the command's entry
abbrev pub entered : ℕ → Reply
entered n = record { status = 200; body = codes "{\"entry\":" ++ (decimal n ++ codes "}") }

-- ---- a decision

-- the code of a rule of the gate
abbrev pub rule_code : GateRule → List ℕ
rule_code gate.G1 = codes "G1"
rule_code gate.G2 = codes "G2"
rule_code gate.G3 = codes "G3"
rule_code gate.G4 = codes "G4"
rule_code gate.G5 = codes "G5"
rule_code gate.G6 = codes "G6"
rule_code gate.G7 = codes "G7"
rule_code gate.G8 = codes "G8"
rule_code gate.G9 = codes "G9"

-- the member that tells the place, with the rules of lists
abbrev pub place_member : GateRule → ℕ → List ℕ
place_member gate.G5 place = codes "\"place\":" ++ (decimal place ++ codes ",")
place_member gate.G6 place = codes "\"place\":" ++ (decimal place ++ codes ",")
place_member gate.G7 place = codes "\"place\":" ++ (decimal place ++ codes ",")
place_member gate.G8 place = codes "\"place\":" ++ (decimal place ++ codes ",")
place_member gate.G1 place = []
place_member gate.G2 place = []
place_member gate.G3 place = []
place_member gate.G4 place = []
place_member gate.G9 place = []

-- `{"allowed":false,"reason":CODE}`, with the place where the rule is of a list
abbrev pub denial_text : GateRule → ℕ → List ℕ
denial_text rule place = codes "{\"allowed\":false," ++ (place_member rule place ++ (codes "\"reason\":\"" ++ (rule_code rule ++ codes "\"}")))

-- `{"allowed":true}`, or the denial
abbrev pub decision_reply : Decision → Reply
decision_reply Admit = record { status = 200; body = codes "{\"allowed\":true}" }
decision_reply (Deny rule place) = record { status = 200; body = denial_text rule place }
