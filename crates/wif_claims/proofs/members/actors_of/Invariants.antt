use Rattle.std.proofs.Common.{◌≡◌, ◌-◌, ◌++◌, option_map}
use Rattle.std.specs.Str.{IsUtf8}
use Rattle.std.specs.List.{AllByRecursion}
use Rattle.serde_json.specs.View.{view}
use Rattle.wif_claims.specs.Payload.{actors}
use Rattle.wif_claims.proofs.members.actors_of.Given as goal

abbrev pub invariant-loop-depth : goal.invariant-loop-depth
invariant-loop-depth l = record {
  so_far :
      actors 8 (option_map (λ v. view v.now) l.member)
      ≡ option_map (λ more. l.found ++ more) (actors (8 - l._depth) (option_map (λ v. view v.now) l.left));
  utf8 : AllByRecursion IsUtf8 l.found;
}
