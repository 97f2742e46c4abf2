-- Steps that refuse.
use Rattle.std.specs.Prelude.{Result, Ok, Err}
use Rattle.base_types.specs.Steps.{◌>>=◌}
use Rattle.entry_rules.specs.Passing.{fault_of, Refuses}
use Rattle.entry_rules.specs.declared.fault.ApplyFault.{ApplyFault}
use Rattle.entry_rules.specs.declared.fault.ApplyFault.TheVariants.{Unlicensed, Memory}
use Rattle.entry_rules.specs.declared.fault.RuleCode.{RuleCode}

-- a step that refuses, refuses all that goes on from it
pub refuses_on : {X Y : Type 0} (r : Result X RuleCode) (next : X → Result Y RuleCode) (fault : ApplyFault) → Refuses fault (fault_of r)
    → Refuses fault (fault_of (r >>= next))
refuses_on (Ok x) next (Unlicensed rule) h = absurd (cc h)
refuses_on (Ok x) next Memory h = tt
refuses_on (Err rule) next fault h = h
