use Rattle.std.proofs.Common.{◌≡◌, take, map}
use Rattle.cel_syntax.specs.Macros.{expanded, pair_expanded}
use Rattle.cel_syntax.proofs.macros.+expand.Given as goal

abbrev pub invariant-expand_all-loop-draft : goal.invariant-expand_all-loop-draft
invariant-expand_all-loop-draft l = l.all ≡ map expanded (take l.draft-index l.drafts)

abbrev pub invariant-expand_pairs-loop-pair : goal.invariant-expand_pairs-loop-pair
invariant-expand_pairs-loop-pair l = l.all ≡ map pair_expanded (take l.pair-index l.pairs)
