-- The replies to what a rule forbids.
use Rattle.std.specs.Prelude.{ℕ, ◌++◌, List, codes}
use Rattle.std.specs.Fmt.{decimal}
use Rattle.wif_base.specs.declared.request.Reply.{Reply}
use Rattle.entry_rules.specs.declared.fault.RuleCode.{RuleCode}
use Rattle.entry_rules.specs.declared.fault.RuleCode.TheVariants.{E11, E12, E14, E15, E16, E17, E18, E19, E20, E21, E22, E23, E24, E25, I5, I8, I9, I10, I11, A4, A6}
use Rattle.entry_rules.specs.Refusals.{rule_text, word_of}
use Rattle.sts_admin.specs.Names.{member_name}
use Rattle.sts_admin.specs.declared.command.CommandFault.{CommandFault}
use Rattle.sts_admin.specs.declared.command.CommandFault.TheVariants.{Kind, Field, Expression, Memory}
use Rattle.boundary.specs.declared.fault.BoundaryCause.{BoundaryCause}
use Rattle.boundary.specs.declared.fault.BoundaryCause.TheVariants as cause
use Rattle.exchange_form.specs.declared.exchange_rule.ExchangeRule.{ExchangeRule}
use Rattle.exchange_form.specs.declared.exchange_rule.ExchangeRule.TheVariants as exchange
use Rattle.sts_replies.specs.declared.generate_rule.GenerateRule.{GenerateRule}
use Rattle.sts_replies.specs.declared.generate_rule.GenerateRule.TheVariants as generate
use Rattle.sts_replies.specs.Replies.{refusal, bad_argument}

-- the status of a refusal by its rule: 403 where a service account may not be impersonated
abbrev pub status_of : RuleCode → ℕ
status_of E11 = 400
status_of (E12 rule) = 400
status_of E14 = 400
status_of E15 = 400
status_of (E16 fault) = 400
status_of (E17 fault) = 400
status_of (E18 fault) = 400
status_of (E19 fault) = 400
status_of (E20 fault) = 400
status_of E21 = 400
status_of E22 = 400
status_of E23 = 400
status_of E24 = 400
status_of E25 = 400
status_of I5 = 400
status_of (I8 hop) = 403
status_of (I9 hop) = 403
status_of I10 = 400
status_of I11 = 400
status_of A4 = 400
status_of A6 = 400

-- the reply to what a rule forbids: its status, its word, its code and its detail
abbrev pub refusal_of : RuleCode → Reply
refusal_of rule = refusal (status_of rule) (word_of rule) (rule_text rule)

-- ---- exchanges

-- the name of a cause for which a boundary is refused
abbrev pub cause_text : BoundaryCause → List ℕ
cause_text cause.Shape = codes "Shape"
cause_text cause.TooMany = codes "TooMany"
cause_text cause.Resource = codes "Resource"
cause_text cause.Permission = codes "Permission"
cause_text cause.Condition = codes "Condition"

-- a request that is no exchange as it should be (RFC 6749, section 5.2)
abbrev pub invalid_request : List ℕ → Reply
invalid_request text = refusal 400 (codes "invalid_request") text

-- the reply to an exchange that fails the rule: its word, its code and its detail (RFC 8693, section 2.2.2)
abbrev pub exchange_refusal : ExchangeRule → Reply
exchange_refusal exchange.E1 = invalid_request (codes "E1")
exchange_refusal exchange.E2 = invalid_request (codes "E2")
exchange_refusal exchange.E3 = invalid_request (codes "E3")
exchange_refusal exchange.E4 = refusal 400 (codes "unsupported_grant_type") (codes "E4")
exchange_refusal exchange.E5 = invalid_request (codes "E5")
exchange_refusal exchange.E6 = invalid_request (codes "E6")
exchange_refusal exchange.E7 = invalid_request (codes "E7")
exchange_refusal exchange.E8 = invalid_request (codes "E8")
exchange_refusal exchange.E9 = invalid_request (codes "E9")
exchange_refusal exchange.E10 = refusal 400 (codes "invalid_target") (codes "E10")
exchange_refusal exchange.Options = invalid_request (codes "E12 Json")
exchange_refusal (exchange.Boundary rule cause) = invalid_request (codes "E12 " ++ (cause_text cause ++ (codes " " ++ decimal rule)))
exchange_refusal exchange.E13 = invalid_request (codes "E13")
exchange_refusal (exchange.Unlicensed rule) = refusal_of rule

-- ---- impersonations

-- the bearer's token isn't there or isn't live
abbrev pub invalid_token : List ℕ → Reply
invalid_token text = refusal 401 (codes "invalid_token") text

-- the reply to a request for a service account's token that fails the rule
abbrev pub generate_refusal : GenerateRule → Reply
generate_refusal generate.I1 = invalid_token (codes "I1")
generate_refusal generate.I2 = bad_argument (codes "I2")
generate_refusal generate.I3 = bad_argument (codes "I3")
generate_refusal generate.I4 = bad_argument (codes "I4")
generate_refusal generate.I5 = bad_argument (codes "I5")
generate_refusal generate.I6 = bad_argument (codes "I6")
generate_refusal generate.I7 = invalid_token (codes "I7")

-- ---- commands that have no form

-- the code of the fault, and the member behind a space
abbrev pub fault_text : CommandFault → List ℕ
fault_text (Field member) = codes "A3 " ++ member_name member
fault_text (Expression member) = codes "A5 " ++ member_name member
fault_text Kind = codes "A2"
fault_text Memory = codes "A2"

-- the reply to a body that is no command
abbrev pub command_refusal : CommandFault → Reply
command_refusal fault = bad_argument (fault_text fault)
