use Rattle.std.proofs.Common.{◌≡◌, ◌++◌, ◌==◌, length, option_map, IsUtf8}
use Rattle.std.specs.List.{list_all, slice_split}
use Rattle.base_types.specs.Forms.{passing}
use Rattle.iam_names.specs.Forms.{is_scope_word}
use Rattle.access_token.proofs.scopes.words_of.Given as goal

abbrev pub invariant-loop-word : goal.invariant-loop-word
invariant-loop-word l = record {
  so_far :
      passing (list_all is_scope_word) (slice_split (λ byte. byte == 32) l.text)
      ≡ option_map (λ rest. l.words ++ rest) (passing (list_all is_scope_word) (slice_split (λ byte. byte == 32) l.rest));
  utf8 : IsUtf8 l.rest;
}

abbrev pub decreases-loop-word : goal.decreases-loop-word
decreases-loop-word l = length l.rest
