-- The declarations that hold inside macros.
use Rattle.std.specs.Prelude.{◌++◌, reverse}
use Rattle.cel_types.specs.Rules.{Decls}
use Rattle.cel_types.specs.declared.scope.Scope.{Scope}

-- those of macros' variables, the last first, and then those that were given
abbrev pub declarations_of : Scope → Decls
declarations_of s = reverse s.bound ++ s.given.now
