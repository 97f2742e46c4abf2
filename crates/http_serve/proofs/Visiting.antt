-- One connection more.
use Rattle.std.proofs.Common.{◌≡◌, ◌≤◌, ◌<◌, ◌+◌, ◌-◌, ◌^◌, ℕ, List, [], ◌∷◌, ◌++◌, length, refl, sym, ◌∙◌, ap, subst, arith, append_assoc, length-append}
use Rattle.std.proofs.lemmas.List.{append-nil}
use Rattle.std.specs.Prelude.{Option, None, Some, map, min, Err}
use Rattle.wif_base.specs.Causes.{Rose}
use Rattle.connection_ends.specs.Pairs.{Pair, Takes, Puts}
use Rattle.service_config.specs.declared.config.Config.{Config}
use Rattle.links.specs.declared.entry.Entry.{Entry}
use Rattle.sts_core.specs.State.{Standing, Stands}
use Rattle.sts_core.specs.declared.stop.Stop.{Stop}
use Rattle.sts_serve.specs.Left.{LeavesService, entries_behind}
use Rattle.sts_serve.specs.declared.served.Served.{Served}
use Rattle.sts_serve.specs.declared.served.Served.TheVariants.{Done, ReadFault, WriteFault, ClockFault, Malformed, InputLimit, Stopped}
use Rattle.http_serve.specs.Asked.{answer}
use Rattle.http_serve.specs.Connection.{ConnectionRun}
use Rattle.http_serve.specs.Listening.{Visit, IsVisit, Visits, Goes, AllGo, clock_faults, clock_failures, ListenRun}
use Rattle.http_serve.specs.declared.listen.ListenEnd.TheVariants as listen_end
use Rattle.http_serve.proofs.Requests.{all-push, map-push}

-- ---- lists of what is told

takes-nothing : {X : Type 0} (old : Option (List X)) → Takes old old []
takes-nothing None = tt
takes-nothing (Some xs) = refl

takes-then : {X : Type 0} (a b c : Option (List X)) (xs ys : List X) → Takes a b xs → Takes b c ys → Takes a c (xs ++ ys)
takes-then None b c xs ys first then = tt
takes-then (Some us) None c xs ys first then = absurd first
takes-then (Some us) (Some vs) None xs ys first then = then
takes-then (Some us) (Some vs) (Some ws) xs ys first then = first ∙ ap (λ (l : List _). xs ++ l) then ∙ sym (append_assoc xs ys ws)

puts-nothing : {X : Type 0} (old : Option (List X)) → Puts old old []
puts-nothing None = tt
puts-nothing (Some xs) = sym (append-nil xs)

puts-then : {X : Type 0} (a b c : Option (List X)) (xs ys : List X) → Puts a b xs → Puts b c ys → Puts a c (xs ++ ys)
puts-then None b c xs ys first then = tt
puts-then (Some us) None c xs ys first then = absurd first
puts-then (Some us) (Some vs) None xs ys first then = then
puts-then (Some us) (Some vs) (Some ws) xs ys first then = then ∙ ap (λ (l : List _). l ++ ys) first ∙ append_assoc us xs ys

-- ---- lists of connections

visits-push : (config : Config) (before now : List Entry) (old mid : Standing) (clock tick : Option (List ℕ)) (visits : List Visit) (visit : Visit)
    → Visits config before old clock visits now mid tick → IsVisit config now mid visit → visit.clock ≡ tick
    → Visits config before old clock (visits ++ visit ∷ []) visit.after visit.sts visit.clock'
visits-push config before now old mid clock tick [] visit chain is same = (
  subst (λ (s : Standing). IsVisit config before s visit) chain.1 (subst (λ (j : List Entry). IsVisit config j mid visit) chain.0 is),
  same ∙ chain.2,
  (refl, refl, refl),
)
visits-push config before now old mid clock tick (v ∷ visits) visit chain is same =
    (chain.0, chain.1, visits-push config v.after now v.sts mid v.clock' tick visits visit chain.2 is same)

failures-push : (visits : List Visit) (visit : Visit) → clock_failures (visits ++ visit ∷ []) ≡ clock_failures visits + clock_faults visit.end
failures-push [] visit = omega arith
failures-push (v ∷ visits) visit = omega (arith, failures-push visits visit)

GoesOn : Visit → Type 0
GoesOn visit = Goes visit.end

-- an end that is no stop
pub going : (end : Served) → ((stop : Stop) → end ≡ Stopped stop → ⊥) → Goes end
going Done not = tt
going ReadFault not = tt
going WriteFault not = tt
going ClockFault not = tt
going (Malformed offset) not = tt
going InputLimit not = tt
going (Stopped stop) not = not stop refl

-- behind it the service stands for the journal
stands_on : (end : Served) (config : Config) (journal next : List Entry) (sts : Standing) → Goes end → LeavesService end config journal next sts → Stands sts config journal
stands_on Done config journal next sts goes left = left
stands_on ReadFault config journal next sts goes left = left
stands_on WriteFault config journal next sts goes left = left
stands_on ClockFault config journal next sts goes left = left
stands_on (Malformed offset) config journal next sts goes left = left
stands_on InputLimit config journal next sts goes left = left
stands_on (Stopped stop) config journal next sts goes left = absurd goes

-- what the clock's count tells of one connection
pub ticked : (end : Served) (before now : ℕ) → before ≤ now → (end ≡ ClockFault → Rose before now) → min (before + clock_faults end) (2 ^ 64 - 1) ≤ now
ticked Done before now later rose = omega arith
ticked ReadFault before now later rose = omega arith
ticked WriteFault before now later rose = omega arith
ticked ClockFault before now later rose = rose refl
ticked (Malformed offset) before now later rose = omega arith
ticked InputLimit before now later rose = omega arith
ticked (Stopped stop) before now later rose = omega arith

-- ---- what is known between two connections

pub record Between (config : Config) (before : List Entry) (old sts : Standing) (waiting waiting' given given' : Option (List Pair)) (clock clock' : Option (List ℕ)) (ticks ticks' count : ℕ) : Type 0 where
  pub visits : List Visit
  pub now : List Entry
  pub chain : Visits config before old clock visits now sts clock'
  pub firsts : Takes waiting waiting' (map (λ visit. visit.pair) visits)
  pub backs : Puts given given' (map (λ visit. visit.back) visits)
  pub failures : min (ticks + clock_failures visits) (2 ^ 64 - 1) ≤ ticks'
  pub number : length visits ≡ count
  pub go : AllGo visits
  pub stands : Stands sts config now

pub starts : (config : Config) (before : List Entry) (old : Standing) (waiting given : Option (List Pair)) (clock : Option (List ℕ)) (ticks : ℕ) → Stands old config before
    → Between config before old old waiting waiting given given clock clock ticks ticks 0
starts config before old waiting given clock ticks stands = record {
  visits = [];
  now = before;
  chain = (refl, refl, refl);
  firsts = takes-nothing waiting;
  backs = puts-nothing given;
  failures = omega arith;
  number = refl;
  go = tt;
  stands = stands;
}

module _ (config : Config) (before : List Entry) (old mid : Standing) (waiting waiting' given given' : Option (List Pair)) (clock clock' : Option (List ℕ)) (ticks ticks' count : ℕ)
    (u : Between config before old mid waiting waiting' given given' clock clock' ticks ticks' count) where
  module _ (waiting'' given'' : Option (List Pair)) (pair back : Pair) (clock'' : Option (List ℕ)) (ticks'' : ℕ) (new : Standing) (end : Served)
      (run : ConnectionRun config u.now mid new pair.left back.left pair.taken back.taken clock' clock'' end)
      (read_fault : end ≡ ReadFault → Rose pair.read_faults back.read_faults) (write_fault : end ≡ WriteFault → Rose pair.write_faults back.write_faults)
      (first : Takes waiting' waiting'' (pair ∷ [])) (last : Puts given' given'' (back ∷ [])) (failed : min (ticks' + clock_faults end) (2 ^ 64 - 1) ≤ ticks'') where
    abbrev pub visit : Visit
    visit = record {
      pair = pair;
      back = back;
      clock = clock';
      clock' = clock'';
      end = end;
      sts = new;
      after = entries_behind (answer config) u.now run.asked run.recorded;
      next = entries_behind (answer config) u.now run.asked (run.recorded + 1);
    }

    is_visit : IsVisit config u.now mid visit
    is_visit = record { run = run; after = refl; next = refl; read_fault = read_fault; write_fault = write_fault }

    firsts-more : Takes waiting waiting'' (map (λ visit. visit.pair) (u.visits ++ visit ∷ []))
    firsts-more = subst (λ (l : List Pair). Takes waiting waiting'' l) (sym (map-push (λ (v : Visit). v.pair) u.visits visit))
        (takes-then waiting waiting' waiting'' (map (λ v. v.pair) u.visits) (pair ∷ []) u.firsts first)

    backs-more : Puts given given'' (map (λ visit. visit.back) (u.visits ++ visit ∷ []))
    backs-more = subst (λ (l : List Pair). Puts given given'' l) (sym (map-push (λ (v : Visit). v.back) u.visits visit))
        (puts-then given given' given'' (map (λ v. v.back) u.visits) (back ∷ []) u.backs last)

    failures-more : min (ticks + clock_failures (u.visits ++ visit ∷ [])) (2 ^ 64 - 1) ≤ ticks''
    failures-more = omega (arith, u.failures, failed, failures-push u.visits visit)

    pub visited : Goes end → Between config before old new waiting waiting'' given given'' clock clock'' ticks ticks'' (count + 1)
    unfolding GoesOn
    visited goes = record {
      visits = u.visits ++ visit ∷ [];
      now = visit.after;
      chain = visits-push config before u.now old mid clock clock' u.visits visit u.chain is_visit refl;
      firsts = firsts-more;
      backs = backs-more;
      failures = failures-more;
      number = omega (arith, u.number, length-append u.visits (visit ∷ []));
      go = all-push GoesOn u.visits visit u.go goes;
      stands = stands_on end config visit.after visit.next new goes run.journal;
    }

    -- the connection stopped, and with it the run
    pub stopped : (stop : Stop) (wanted : ℕ) → count < wanted → end ≡ Stopped stop
        → ListenRun config before old new waiting waiting'' given given'' clock clock'' ticks ticks'' wanted (Err (listen_end.Stopped stop))
    stopped stop wanted fewer ends = record {
      visits = u.visits ++ visit ∷ [];
      after = visit.after;
      chain = visits-push config before u.now old mid clock clock' u.visits visit u.chain is_visit refl;
      firsts = firsts-more;
      backs = backs-more;
      failures = failures-more;
      ended = (
        u.visits,
        visit,
        refl,
        omega (arith, u.number, fewer, length-append u.visits (visit ∷ [])),
        u.go,
        ends,
        subst (λ (e : Served). LeavesService e config visit.after visit.next new) ends run.journal,
      );
    }
