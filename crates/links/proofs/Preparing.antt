-- The steps of an entry's preparing are its licence and what its recording gives.
use Rattle.std.proofs.Common.{◌≡◌, ◌+◌, ℕ, List, [], ◌∷◌, ◌++◌, length, Bool, refl, sym, ◌∙◌, ap, subst}
use Rattle.std.specs.Prelude.{Option, None, Some, Result, Ok, Err, IfOk, IfErr, option_map, nat_lt, max}
use Rattle.std.specs.Result.{result_ok}
use Rattle.std.specs.List.{AllByRecursion}
use Rattle.base_types.specs.Rules.{fails_if, first_of}
use Rattle.hmac_jws.specs.Compact.{compact}
use Rattle.access_token.specs.Payload.{payload_text}
use Rattle.boundary.specs.Exact.{IsExactBoundary}
use Rattle.service_view.specs.declared.command.Command.{Command}
use Rattle.service_view.specs.declared.command.Command.TheVariants as command
use Rattle.service_view.specs.declared.command.Ready.{Ready}
use Rattle.service_view.specs.declared.ready_fault.ReadyFault.{ReadyFault}
use Rattle.service_view.specs.declared.ready_fault.ReadyFault.TheVariants as ready_faults
use Rattle.service_view.specs.Puts.{RefusesBy, ready_fault, made_ready, command_of}
use Rattle.links.specs.declared.entry.Entry.{Entry}
use Rattle.links.specs.declared.entry.Entry.TheVariants as entry
use Rattle.links.specs.declared.entry.Exchange.{Exchange}
use Rattle.links.specs.declared.entry.Narrowing.{Narrowing}
use Rattle.links.specs.declared.entry.Impersonation.{Impersonation}
use Rattle.links.specs.declared.entry.Delegation.{Delegation}
use Rattle.entry_rules.specs.declared.fault.ApplyFault.{ApplyFault}
use Rattle.entry_rules.specs.declared.fault.ApplyFault.TheVariants.{Unlicensed, Memory}
use Rattle.entry_rules.specs.declared.fault.RuleCode.{RuleCode}
use Rattle.entry_rules.specs.declared.fault.RuleCode.TheVariants.{E25, I11}
use Rattle.links.specs.declared.tokens.Issued.{Issued}
use Rattle.links.specs.declared.prepared.Plan.{Plan}
use Rattle.links.specs.declared.prepared.Plan.TheVariants as plan
use Rattle.links.specs.declared.recorded.RecordedLink.{RecordedLink}
use Rattle.subject_token.specs.declared.source.Source.{Source}
use Rattle.links.specs.Chain.{Chain, Root, Narrowed, Impersonated, Delegated, Own, own, own_at, chains_of, delegated as joined_with}
use Rattle.links.specs.Facts.{facts_of}
use Rattle.entry_rules.specs.Passing.{Passes, Refuses}
use Rattle.links.specs.Licence.{first_unlicensed, exchange_rules, narrow_rules, impersonation_rules, delegation_rules}
use Rattle.links.specs.Licence.{size_rule, is_deep, is_long, begins_with_name, may_be_acted_for, rule_of, refusal_of, planned_of, prepared_of, Licensed}
use Rattle.links.specs.Prepared.{PlannedEntry, PreparedEntry, planned, with_link, with_token}
use Rattle.links.specs.Recorded.{recorded, narrowed, impersonated, delegated}
use Rattle.links.specs.State.{Content, chain, link_of, made, made_by, source_at, federated_link, narrow_link, impersonate_link, delegate_link, token_text}
use Rattle.links.proofs.Chains.{length-chains_of}
use Rattle.links.proofs.Good.{IsGoodChain}
use Rattle.links.proofs.GoodLinks.{bounds_exact}
use Rattle.links.proofs.Journals.{IsKept, good_of_chain}

-- ---- rules, one after another

-- the first rule that fails is the first of more
refuses_early : (rules : List (Option RuleCode)) (last : Option RuleCode) (fault : ApplyFault) → Refuses fault (first_of rules)
    → Refuses fault (first_of (rules ++ last ∷ []))
refuses_early [] last (Unlicensed rule) h = absurd (cc h)
refuses_early [] last Memory h = tt
refuses_early (None ∷ rules) last fault h = refuses_early rules last fault h
refuses_early (Some rule ∷ rules) last fault h = h

-- where none fails, the last one is left
last_rule : (rules : List (Option RuleCode)) (last : Option RuleCode) → first_of rules ≡ None → first_of (rules ++ last ∷ []) ≡ last
last_rule [] None h = refl
last_rule [] (Some rule) h = refl
last_rule (None ∷ rules) last h = last_rule rules last h
last_rule (Some rule ∷ rules) last h = absurd (cc h)

-- a step that can only want memory passes where no rule fails
pub passes_but_memory : {X : Type 0} (r : Result X ApplyFault) (failed : Option RuleCode) → failed ≡ None → IfErr r (λ (f : ApplyFault). f ≡ Memory)
    → Passes r failed
passes_but_memory (Ok x) failed none memory = none
passes_but_memory (Err fault) failed none memory = subst (λ (f : ApplyFault). Refuses f failed) (sym memory) tt

-- ---- the chain of the next link

abbrev next_root : Content → Exchange → Source → Chain
next_root c x source = Root (record { number = length c.links; at = x.at; words = x.scope }) source

made_source : (c : Content) (x : Exchange) (source : Source) → source_at c x.provider x.token x.at ≡ Ok source
    → made c (entry.Federated x) ≡ Some (next_root c x source)
made_source c x source is =
    let link : link_of c (entry.Federated x) ≡ Some (federated_link x.scope x.at source) =
    ap (λ (r : Result Source RuleCode). option_map (federated_link x.scope x.at) (result_ok r)) is in
    ap (made_by c) link ∙ ap (λ (n : ℕ). Some (Root (record { number = n; at = x.at; words = x.scope }) source)) (length-chains_of c.links)

-- what is held of it
pub held_source : (c : Content) (x : Exchange) (source : Source) (r : Result RecordedLink ApplyFault) → source_at c x.provider x.token x.at ≡ Ok source
    → IfOk r (λ (link : RecordedLink). link ≡ recorded (next_root c x source))
    → IfOk r (λ (link : RecordedLink). Some link ≡ option_map recorded (made c (entry.Federated x)))
held_source c x source (Ok link) is held =
    ap (λ (l : RecordedLink). Some l) held ∙ ap (λ (o : Option Chain). option_map recorded o) (sym (made_source c x source is))
held_source c x source (Err fault) is held = tt

-- ---- the chain of a link behind others

-- what is held of the next link, where it is made from what is held of one before it
behind_one : (o : Option Chain) (row : RecordedLink) (next : Chain → Chain) (next_row : RecordedLink → RecordedLink)
    → option_map recorded o ≡ Some row
    → ((parent : Chain) → o ≡ Some parent → recorded (next parent) ≡ next_row (recorded parent))
    → option_map recorded (option_map next o) ≡ Some (next_row row)
behind_one None row next next_row is same = absurd (cc is)
behind_one (Some parent) row next next_row is same =
    let here : recorded parent ≡ row = cc is in
    ap (λ (r : RecordedLink). Some r) (same parent refl ∙ ap next_row here)

-- the same of two before it
behind_two : (o : Own) (from with : Option Chain) (row other : RecordedLink) (next_row : RecordedLink → RecordedLink → RecordedLink)
    → option_map recorded from ≡ Some row → option_map recorded with ≡ Some other
    → ((subject actor : Chain) → from ≡ Some subject → with ≡ Some actor
    → recorded (Delegated o subject actor) ≡ next_row (recorded subject) (recorded actor))
    → option_map recorded (joined_with o from with) ≡ Some (next_row row other)
behind_two o None with row other next_row is also same = absurd (cc is)
behind_two o (Some subject) None row other next_row is also same = absurd (cc also)
behind_two o (Some subject) (Some actor) row other next_row is also same =
    let here : recorded subject ≡ row = cc is in
    let there : recorded actor ≡ other = cc also in
    ap (λ (r : RecordedLink). Some r) (same subject actor refl refl ∙ cc (here, there))

-- each kind's row is that of its chain
next_narrowed : (c : Content) (x : Narrowing) (parent : Chain) → (own parent).number ≡ x.parent
    → recorded (Narrowed (own_at (length (chains_of c.links)) (narrow_link x)) x.boundary parent) ≡ narrowed (length c.links) x (recorded parent)
unfolding facts_of
next_narrowed c x parent number = rw (length-chains_of c.links, number) refl

next_impersonated : (c : Content) (x : Impersonation) (parent : Chain) → (own parent).number ≡ x.parent
    → recorded (Impersonated (own_at (length (chains_of c.links)) (impersonate_link x)) x.accounts x.lifetime parent)
    ≡ impersonated (length c.links) x (recorded parent)
unfolding facts_of
next_impersonated c x parent number = rw (length-chains_of c.links, number) refl

next_delegated : (c : Content) (x : Delegation) (subject actor : Chain) → (own subject).number ≡ x.subject → (own actor).number ≡ x.actor
    → recorded (Delegated (own_at (length (chains_of c.links)) (delegate_link x)) subject actor)
    ≡ delegated (length c.links) x (recorded subject) (recorded actor)
unfolding facts_of
next_delegated c x subject actor number other = rw (length-chains_of c.links, number, other) refl

-- what is held of a narrowing's link is made from what is held of its parent
pub held_narrowing : (c : Content) (x : Narrowing) (row : RecordedLink) → IsKept c → option_map recorded (chain c x.parent) ≡ Some row
    → option_map recorded (made c (entry.Narrow x)) ≡ Some (narrowed (length c.links) x row)
held_narrowing c x row kept is = behind_one (chain c x.parent) row (Narrowed _ x.boundary) (narrowed (length c.links) x) is
    (λ parent there. next_narrowed c x parent (good_of_chain c x.parent parent kept there).number)

-- the same of an impersonation
pub held_impersonation : (c : Content) (x : Impersonation) (row : RecordedLink) → IsKept c → option_map recorded (chain c x.parent) ≡ Some row
    → option_map recorded (made c (entry.Impersonate x)) ≡ Some (impersonated (length c.links) x row)
held_impersonation c x row kept is = behind_one (chain c x.parent) row (Impersonated _ x.accounts x.lifetime) (impersonated (length c.links) x) is
    (λ parent there. next_impersonated c x parent (good_of_chain c x.parent parent kept there).number)

-- and of a delegation, from what is held of its subject and its actor
pub held_delegation : (c : Content) (x : Delegation) (row other : RecordedLink) → IsKept c → option_map recorded (chain c x.subject) ≡ Some row
    → option_map recorded (chain c x.actor) ≡ Some other
    → option_map recorded (made c (entry.Delegate x)) ≡ Some (delegated (length c.links) x row other)
held_delegation c x row other kept is also = behind_two _ (chain c x.subject) (chain c x.actor) row other (delegated (length c.links) x) is also
    (λ subject actor there beside. next_delegated c x subject actor (good_of_chain c x.subject subject kept there).number
    (good_of_chain c x.actor actor kept beside).number)

-- the row that is made, where there is memory
pub held_row : (number : ℕ) (next : ℕ → RecordedLink) (c : Content) (e : Entry) (r : Result RecordedLink ApplyFault) → number ≡ length c.links
    → option_map recorded (made c e) ≡ Some (next (length c.links)) → IfOk r (λ (link : RecordedLink). link ≡ next number)
    → IfOk r (λ (link : RecordedLink). Some link ≡ option_map recorded (made c e))
held_row number next c e (Ok link) count is held = ap (λ (l : RecordedLink). Some l) (held ∙ ap next count) ∙ sym is
held_row number next c e (Err fault) count is held = tt

-- whether the chain of a delegation is too long, by what is held of its subject and its actor
pub held_deep : (o : Own) (from with : Option Chain) (row other : RecordedLink) → option_map recorded from ≡ Some row → option_map recorded with ≡ Some other
    → is_deep (joined_with o from with) ≡ nat_lt 8 (max row.depth other.depth + 1)
held_deep o None with row other is also = absurd (cc is)
held_deep o (Some subject) None row other is also = absurd (cc also)
held_deep o (Some subject) (Some actor) row other is also =
    let here : recorded subject ≡ row = cc is in
    let there : recorded actor ≡ other = cc also in
    ap (λ (r : RecordedLink). nat_lt 8 (max r.depth (recorded actor).depth + 1)) here
    ∙ ap (λ (r : RecordedLink). nat_lt 8 (max row.depth r.depth + 1)) there

-- whether the subject names the actor, by what is held of both
pub held_named : (from with : Option Chain) (row other : RecordedLink) → option_map recorded from ≡ Some row → option_map recorded with ≡ Some other
    → may_be_acted_for from with ≡ begins_with_name other.facts.sub row.facts.may_act
unfolding facts_of
held_named None with row other is also = absurd (cc is)
held_named (Some subject) None row other is also = absurd (cc also)
held_named (Some subject) (Some actor) row other is also =
    let here : recorded subject ≡ row = cc is in
    let there : recorded actor ≡ other = cc also in
    ap (λ (r : RecordedLink). begins_with_name r.facts.sub (recorded subject).facts.may_act) there
    ∙ ap (λ (r : RecordedLink). begins_with_name other.facts.sub r.facts.may_act) here

bounds_by : (o : Option Chain) (row : RecordedLink) → option_map recorded o ≡ Some row → ((found : Chain) → o ≡ Some found → IsGoodChain found)
    → AllByRecursion IsExactBoundary row.facts.bounds
unfolding facts_of
bounds_by None row is good = absurd (cc is)
bounds_by (Some found) row is good =
    let same : recorded found ≡ row = cc is in
    subst (λ (r : RecordedLink). AllByRecursion IsExactBoundary r.facts.bounds) same (bounds_exact found (good found refl))

-- the boundaries that a recorded link carries are exact
pub held_bounds : (c : Content) (n : ℕ) (row : RecordedLink) → IsKept c → option_map recorded (chain c n) ≡ Some row
    → AllByRecursion IsExactBoundary row.facts.bounds
held_bounds c n row kept is = bounds_by (chain c n) row is (λ found there. (good_of_chain c n found kept there).form)

-- ---- what is planned and prepared

abbrev text_of : Content → RecordedLink → List ℕ
text_of c link = compact c.key (payload_text c.issuer link.facts)

abbrev made_up : Content → RecordedLink → Issued
made_up c link = record { recorded = link; payload = payload_text c.issuer link.facts }

told : (c : Content) (e : Entry) (made_chain : Option Chain) (link : RecordedLink) → Some link ≡ option_map recorded made_chain
    → with_link e (made_up c link) ≡ record {
      entry = e;
      recorded = option_map recorded made_chain;
      payload = option_map (λ found. payload_text c.issuer (facts_of found)) made_chain;
    }
told c e None link is = absurd (cc is)
told c e (Some found) link is = let same : link ≡ recorded found = cc is in rw same refl

-- the link with its payload is what is planned
pub issued_is : (c : Content) (e : Entry) (link : RecordedLink) (r : Result Issued ApplyFault) → Some link ≡ option_map recorded (made c e)
    → IfOk r (λ (issued : Issued). issued ≡ made_up c link) → IfOk r (λ (issued : Issued). with_link e issued ≡ planned_of c e)
issued_is c e link (Ok issued) is up = ap (λ (i : Issued). with_link e i) up ∙ told c e (made c e) link is
issued_is c e link (Err fault) is up = tt

long : (c : Content) (made_chain : Option Chain) (link : RecordedLink) → Some link ≡ option_map recorded made_chain
    → is_long c made_chain ≡ nat_lt 8192 (length (text_of c link))
unfolding token_text
long c None link is = absurd (cc is)
long c (Some found) link is = let same : link ≡ recorded found = cc is in rw same refl

signed : (c : Content) (made_chain : Option Chain)
    → option_map (compact c.key) (option_map (λ found. payload_text c.issuer (facts_of found)) made_chain) ≡ option_map (token_text c) made_chain
unfolding token_text
signed c None = refl
signed c (Some found) = refl

-- what is planned is what is prepared, once it is signed
pub signed_is : (c : Content) (e : Entry) (p : PlannedEntry) (r : Result PreparedEntry ApplyFault) → p ≡ planned_of c e
    → IfOk r (λ (q : PreparedEntry). q ≡ with_token p (option_map (compact c.key) p.payload)) → IfOk r (λ (q : PreparedEntry). q ≡ prepared_of c e)
signed_is c e p (Ok q) is made_so =
    made_so ∙ ap (λ (k : PlannedEntry). with_token k (option_map (compact c.key) k.payload)) is
    ∙ ap (λ (t : Option (List ℕ)). with_token (planned_of c e) t) (signed c (made c e))
signed_is c e p (Err fault) is made_so = tt

-- the token's size is looked at last
pub size_last : {X : Type 0} (c : Content) (e : Entry) (rules : List (Option RuleCode)) (code : RuleCode) (link : RecordedLink) (r : Result X ApplyFault)
    → Some link ≡ option_map recorded (made c e)
    → first_of rules ≡ None → Passes r (fails_if (nat_lt 8192 (length (text_of c link))) code) → Passes r (first_of (rules ++ size_rule c e code ∷ []))
size_last c e rules code link r is none size =
    let same : size_rule c e code ≡ fails_if (nat_lt 8192 (length (text_of c link))) code =
    ap (λ (b : Bool). fails_if b code) (long c (made c e) link is) in
    subst (λ (failed : Option RuleCode). Passes r failed) (sym (last_rule rules (size_rule c e code) none ∙ same)) size

-- what fails a rule before it, fails the first rule of all
pub exchange_refused_before : (c : Content) (x : Exchange) (fault : ApplyFault) → Refuses fault (first_of (exchange_rules c x))
    → Refuses fault (first_unlicensed c (entry.Federated x))
unfolding first_unlicensed
exchange_refused_before c x fault h = refuses_early (exchange_rules c x) (size_rule c (entry.Federated x) E25) fault h

pub narrow_refused_before : (c : Content) (x : Narrowing) (fault : ApplyFault) → Refuses fault (first_of (narrow_rules c x))
    → Refuses fault (first_unlicensed c (entry.Narrow x))
unfolding first_unlicensed
narrow_refused_before c x fault h = refuses_early (narrow_rules c x) (size_rule c (entry.Narrow x) E25) fault h

pub impersonation_refused_before : (c : Content) (x : Impersonation) (fault : ApplyFault) → Refuses fault (first_of (impersonation_rules c x))
    → Refuses fault (first_unlicensed c (entry.Impersonate x))
unfolding first_unlicensed
impersonation_refused_before c x fault h = refuses_early (impersonation_rules c x) (size_rule c (entry.Impersonate x) I11) fault h

pub delegation_refused_before : (c : Content) (x : Delegation) (fault : ApplyFault) → Refuses fault (first_of (delegation_rules c x))
    → Refuses fault (first_unlicensed c (entry.Delegate x))
unfolding first_unlicensed
delegation_refused_before c x fault h = refuses_early (delegation_rules c x) (size_rule c (entry.Delegate x) E25) fault h

-- ---- commands

back : (command : Command) → command_of (made_ready command) ≡ command
back (command.Pool pool disabled) = refl
back (command.Provider provider) = refl
back (command.Account account disabled) = refl
back (command.Role role permissions) = refl
back (command.Scope word permissions) = refl
back (command.Policy resource bindings) = refl

pub put_prepares : (c : Content) (command : Command) (ready : Ready) → ready ≡ made_ready command → ready_fault c.view command ≡ None
    → (planned (plan.Put ready) ≡ planned_of c (entry.Put command)) × Licensed c (entry.Put command)
unfolding first_unlicensed
put_prepares c command ready is none =
    let same : command_of ready ≡ command = ap command_of is ∙ back command in
    (ap (λ (k : Command). planned_of c (entry.Put k)) same, ap (λ (f : Option ReadyFault). option_map rule_of f) none)

pub put_refused : (c : Content) (command : Command) (fault : ReadyFault) → RefusesBy {X = Ready} (ready_fault c.view command) (Err fault)
    → Refuses (refusal_of fault) (first_unlicensed c (entry.Put command))
unfolding first_unlicensed
put_refused c command ready_faults.UnknownPool is = ap (λ (f : Option ReadyFault). option_map rule_of f) is
put_refused c command ready_faults.UnknownRole is = ap (λ (f : Option ReadyFault). option_map rule_of f) is
put_refused c command ready_faults.Limit is = ap (λ (f : Option ReadyFault). option_map rule_of f) is
put_refused c command ready_faults.Memory is = tt

-- ---- room

pub room_planned : (c : Content) (e : Entry) (p : Plan) (r : Result Plan ApplyFault) → planned p ≡ planned_of c e
    → IfOk r (λ (q : Plan). q ≡ p) → IfOk r (λ (q : Plan). planned q ≡ planned_of c e)
room_planned c e p (Ok q) is ok = ap planned ok ∙ is
room_planned c e p (Err fault) is ok = tt
