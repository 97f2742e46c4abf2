-- Whether a step passes the rules on it.
use Rattle.std.specs.Prelude.{◌≡◌, Option, None, Some, Result, Ok, Err, ⊤}
use Rattle.entry_rules.specs.declared.fault.ApplyFault.{ApplyFault}
use Rattle.entry_rules.specs.declared.fault.ApplyFault.TheVariants.{Unlicensed, Memory}
use Rattle.entry_rules.specs.declared.fault.RuleCode.{RuleCode}

-- the rule that a result fails
abbrev pub fault_of : {X : Type 0} → Result X RuleCode → Option RuleCode
fault_of (Ok x) = None
fault_of (Err rule) = Some rule

-- The fault says the rule that fails, and want of memory says nothing.
abbrev pub Refuses : ApplyFault → Option RuleCode → Type 0
Refuses (Unlicensed rule) failed = failed ≡ Some rule
Refuses Memory failed = ⊤

-- No rule fails, or the fault says the one that does.
abbrev pub Passes : {X : Type 0} → Result X ApplyFault → Option RuleCode → Type 0
Passes (Ok x) failed = failed ≡ None
Passes (Err fault) failed = Refuses fault failed
