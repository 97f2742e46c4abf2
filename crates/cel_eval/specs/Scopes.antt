-- The environment that a scope stands for: what macros bound, the last first, and then what was given.
use Rattle.std.specs.Prelude.{◌++◌, reverse}
use Rattle.cel_eval.specs.Denotation.{Env}
use Rattle.cel_eval.specs.declared.scope.Scope.{Scope}

-- what macros bound, the last first, and then what was given
abbrev pub env_of : Scope → Env
env_of s = reverse s.bound ++ s.given.now
