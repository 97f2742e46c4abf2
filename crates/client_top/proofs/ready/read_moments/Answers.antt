use Rattle.std.proofs.Common.{ℕ, List, ◌≡◌, map, Vec, Global, subst}
use Rattle.client_top.specs.Asks.{AreAsks, moments_by}
use Rattle.client_top.specs.declared.asks.Ask.{Ask}
use Rattle.client_top.proofs.Running.{reads_asks}
use Rattle.client_top.proofs.ready.read_moments.Goals as goal

pub returns-in-Ok-clause-moments : goal.returns-in-Ok-clause-moments
returns-in-Ok-clause-moments g c =
    let bytes = c.in_ok-bytes.bytes.items in
    let asks = c.in_ok-asks.asks.items in
    let are : AreAsks c.args.workers bytes asks = subst (λ (b : List ℕ). AreAsks c.args.workers b asks) c.as_slice.ensures.value c.in_ok-asks.ensures.read in
    record {
      asks = asks;
      read = reads_asks c.args.workers _ _ bytes asks c.requires.1 c.in_ok-bytes.ensures.read are;
      by_worker = subst (λ (a : List Ask). map (λ (list : Vec ℕ Global). list.items) c.in-Ok.lists.items ≡ moments_by c.args.workers a)
          c.as_slice-2.ensures.value c.in-Ok.ensures;
    }
