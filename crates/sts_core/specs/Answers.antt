-- What a step that rules may stop answers.
use Rattle.std.specs.Prelude.{◌≡◌, Result, Ok, Err, ⊤}
use Rattle.sts_core.specs.declared.rule_stop.RuleStop.{RuleStop}
use Rattle.sts_core.specs.declared.rule_stop.RuleStop.TheVariants.{Refused, Memory}

-- a stop says the rule that fails, and want of memory says nothing
abbrev pub Refuses : {X R : Type 0} → RuleStop R → Result X R → Type 0
Refuses (Refused failed) there = there ≡ Err failed
Refuses Memory there = ⊤

-- what is answered is what there is
abbrev pub Gives : {X R : Type 0} → Result X (RuleStop R) → Result X R → Type 0
Gives (Ok x) there = there ≡ Ok x
Gives (Err stop) there = Refuses stop there
