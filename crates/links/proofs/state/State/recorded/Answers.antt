use Rattle.std.proofs.Common.{◌≡◌, ◌<◌, List, length, refl, ap, subst, arith}
use Rattle.std.specs.Prelude.{Some, slice_get, option_map}
use Rattle.std.proofs.lemmas.Option.{slice_get_read}
use Rattle.links.specs.declared.recorded.RecordedLink.{RecordedLink}
use Rattle.links.specs.Recorded.{recorded, link_of_recorded}
use Rattle.links.specs.State.{Kept, chain}
use Rattle.links.proofs.Held.{kept_row, map-length}
use Rattle.links.proofs.state.State.recorded.Goals as goal

pub returns : goal.returns
returns c =
    let rows = c.self.inside.links.items in
    let row = c.index-links-number.result in
    let within : c.args.number < length c.as_slice-links.result.now =
    omega (
      arith,
      c.requires,
      map-length link_of_recorded rows,
      ap (λ (k : Kept). length k.content.links) c.self.view_is,
      ap length c.as_slice-links.ensures.value,
    ) in
    let there = slice_get_read c.as_slice-links.result.now _ c.args.number row refl within c.index-links-number.is in
    let at : slice_get rows c.args.number ≡ Some row =
    subst (λ (l : List RecordedLink). slice_get l c.args.number ≡ Some row) c.as_slice-links.ensures.value there in
    subst (λ (k : Kept). option_map recorded (chain k.content c.args.number) ≡ Some row) c.self.view_is (kept_row rows c.args.number row c.self.invariant.1 at)
