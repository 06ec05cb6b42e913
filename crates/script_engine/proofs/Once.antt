-- What is consumed and what is pulled is one.
use Rattle.std.proofs.Common.{◌≡◌, ◌<◌, ◌+◌, ◌^◌, ◌⊎◌, ℕ, List, [], ◌∷◌, refl, sym, ap, ◌∙◌, subst, arith, inl, inr, Option, Some, None}
use Rattle.win_order.specs.declared.update.Update.{Update}
use Rattle.vol_state.specs.declared.record.VolRecord.{VolRecord}
use Rattle.record_db.specs.Records.{Covered, IsBetter, IsHeld, Versions, both, plus}
use Rattle.record_db.proofs.Best.{best_one, one_held}
use Rattle.name_rules.specs.Recorded.{base_fence, recorded_of}
use Rattle.name_rules.specs.Tree.{is_file}
use Rattle.world_model.specs.World.{World, IsRecordOf, with_member}
use Rattle.world_model.specs.Events.{IsOfFile, Records, adopted_by, consumes}
use Rattle.world_model.specs.Invariant.{VersionsAreMade}
use Rattle.world_model.specs.Rounds.{IsWanted}
use Rattle.world_model.proofs.Facts.{none_some, some_is, true_false}
use Rattle.script_engine.specs.Sound.{IsSoundWorld}
use Rattle.script_engine.specs.declared.refusal.Refusal.{Refusal}
use Rattle.script_engine.specs.declared.refusal.Refusal.TheVariants.{NotYet, VectorFull}
use Rattle.script_engine.specs.Widening.{Exceeds, Fits}
use Rattle.script_engine.specs.declared.consumed.Consumed.{Consumed}
use Rattle.script_engine.specs.declared.consumed.Consumed.TheVariants.{Made, Skipped}
use Rattle.script_engine.specs.Consuming.{ConsumesAll, ConsumesNext, ConsumesOne, IsAtEnd, IsTooWide, widened}
use Rattle.script_engine.specs.Pulling.{Ends, Gives, GoesOn, IsAsked, IsLastPending, Pulls, Rest, Takes, TakesFiles, TakesPages, with_given}
use Rattle.script_engine.specs.Scene.{Scene, in_world}
use Rattle.script_engine.proofs.Gives.{IsKept, gives_one, gives_sum}
use Rattle.script_engine.proofs.Leading.{leads_kept}
use Rattle.script_engine.proofs.Pulled.{given_leads, paged_leads}
use Rattle.script_engine.proofs.Orders.{Before, by_version, gvsn_irrefl, gvsn_trans, sorted_one}
use Rattle.script_engine.proofs.Passing.{consumes_one_passes}
use Rattle.script_engine.proofs.Vectors.{exceeds_one, not_both}

-- ---- lists

-- what a puller asks for is one list
pub page_one : (w : World) (puller server : ℕ) (a b : List Update) → IsAsked w puller server a → IsAsked w puller server b → a ≡ b
page_one w puller server a b s t =
    sorted_one Before (λ x y z p q. gvsn_trans x.gvsn y.gvsn z.gvsn p q) (λ x p. gvsn_irrefl x.gvsn p) a b (by_version a s.ordered) (by_version b t.ordered)
    (λ x h. t.whole x (s.each x h).0 (s.each x h).1) (λ x h. s.whole x (t.each x h).0 (t.each x h).1)

-- ---- consuming

-- a journal record makes one update, or none
pub records_one : (w : World) (d moment : ℕ) (a b : Option Update) → VersionsAreMade w → Records w d moment a → Records w d moment b → a ≡ b
records_one w d moment a b h (r, held, at, is_held, is) (r', held', at', is_held', is') =
    let same : r ≡ r' = some_is r r' (sym at ∙ at') in
    let found : held ≡ held' = one_held (Covered w.all (w.at d).known) r.uid held held' (λ u v p q e. h.one_each u v p.0 q.0 e) is_held
    (subst (λ (x : VolRecord). IsHeld (Covered w.all (w.at d).known) x.uid held') (sym same) is_held') in
    is ∙ (λ i. recorded_of d (w.at d).volume (base_fence (w.at d).phase (w.at d).kind) (w.at d).consumed moment (same i) (found i)) ∙ sym is'

-- one record, and one world
abbrev Alike : {X : Type 0} → X → X → World → World → Type 0
Alike x y m n = (x ≡ y) × (m ≡ n)

at_end : (w : World) (d moment : ℕ) (made : Option Update) → IsAtEnd w d → Records w d moment made → ⊥
at_end w d moment made end (r, held, at, is_held, is) = none_some r (sym end ∙ at)

one_more : (w : World) (d moment : ℕ) (c : Consumed) (new : World) → ConsumesOne w d moment c new → (made : Option Update) × Records w d moment made × Fits (widened w d)
one_more w d moment (Made usn) new (same, fits, u, r, is) = (Some u, r, fits)
one_more w d moment (Skipped usn) new (same, fits, r, is) = (None, r, fits)

consumes_one_one : (w : World) (d moment : ℕ) (c e : Consumed) (m n : World) → VersionsAreMade w → ConsumesOne w d moment c m → ConsumesOne w d moment e n → Alike c e m n
consumes_one_one w d moment (Made a) (Made b) m n h (p, f, u, r, is) (q, g, v, k, is') =
    let made = records_one w d moment (Some u) (Some v) h r k in (ap Made (p ∙ sym q), is ∙ ap (consumes w d) made ∙ sym is')
consumes_one_one w d moment (Made a) (Skipped b) m n h (p, f, u, r, is) (q, g, k, is') = absurd (none_some u (records_one w d moment None (Some u) h k r))
consumes_one_one w d moment (Skipped a) (Made b) m n h (p, f, r, is) (q, g, v, k, is') = absurd (none_some v (records_one w d moment None (Some v) h r k))
consumes_one_one w d moment (Skipped a) (Skipped b) m n h (p, f, r, is) (q, g, k, is') = (ap Skipped (p ∙ sym q), is ∙ sym is')

stops : (w : World) (d moment : ℕ) (c : Consumed) (count : ℕ) (new : World) → IsTooWide w d moment count → ConsumesOne w d moment c new → ⊥
stops w d moment c count new (made, r, much) one = let (other, k, fits) = one_more w d moment c new one in not_both (widened w d) count fits much

-- some records, one refusal or none, and one world
pub record SameEnd (a b : List Consumed) (why other : Option Refusal) (m n : World) : Type 0 where
  pub done : a ≡ b
  pub refusal : why ≡ other
  pub world : m ≡ n

pub consumes_all_one : (w : World) (d moment : ℕ) (a b : List Consumed) (why other : Option Refusal) (m n : World) → moment < 2 ^ 61 → IsSoundWorld w
    → ConsumesAll w d moment a why m → ConsumesAll w d moment b other n → SameEnd a b why other m n
consumes_all_one w d moment [] [] why other m n early h (inl (end, none, is)) (inl (end', none', is')) = record { done = refl; refusal = none ∙ sym none'; world = is ∙ sym is' }
consumes_all_one w d moment [] [] why other m n early h (inl (end, none, is)) (inr (count, (made, r, much), some, is')) = absurd (at_end w d moment made end r)
consumes_all_one w d moment [] [] why other m n early h (inr (count, (made, r, much), some, is)) (inl (end, none, is')) = absurd (at_end w d moment made end r)
consumes_all_one w d moment [] [] why other m n early h (inr (count, wide, some, is)) (inr (count', wide', some', is')) =
    record { done = refl; refusal = some ∙ ap (λ k. Some (VectorFull k)) (exceeds_one (widened w d) count count' wide.2 wide'.2) ∙ sym some'; world = is ∙ sym is' }
consumes_all_one w d moment [] (c ∷ cs) why other m n early h (inl (end, none, is)) (mid, one, more) = let (made, r, fits) = one_more w d moment c mid one in absurd (at_end w d moment made end r)
consumes_all_one w d moment [] (c ∷ cs) why other m n early h (inr (count, wide, some, is)) (mid, one, more) = absurd (stops w d moment c count mid wide one)
consumes_all_one w d moment (c ∷ cs) [] why other m n early h (mid, one, more) (inl (end, none, is)) = let (made, r, fits) = one_more w d moment c mid one in absurd (at_end w d moment made end r)
consumes_all_one w d moment (c ∷ cs) [] why other m n early h (mid, one, more) (inr (count, wide, some, is)) = absurd (stops w d moment c count mid wide one)
consumes_all_one w d moment (c ∷ cs) (e ∷ es) why other m n early h (mid, one, more) (mid', one', more') =
    let (first, world) = consumes_one_one w d moment c e mid mid' h.invariant.versions one one' in
    let p = consumes_one_passes w d moment c mid early h one in
    let rest = consumes_all_one mid d moment cs es why other m n early p.sound more (subst (λ z. ConsumesAll z d moment es other n) (sym world) more') in
    record { done = λ i. first i ∷ rest.done i; refusal = rest.refusal; world = rest.world }

-- a next record as one of all, or none
abbrev pub Next : World → ℕ → ℕ → List Consumed → Option Refusal → World → Type 0
Next w d moment done why new =
    ((done ≡ []) × (why ≡ None) × IsAtEnd w d × (new ≡ w))
    ⊎ (((count : ℕ) × (done ≡ []) × (why ≡ Some (VectorFull count)) × IsTooWide w d moment count × (new ≡ w))
    ⊎ ((c : Consumed) × (done ≡ c ∷ []) × (why ≡ None) × ConsumesOne w d moment c new))

pub next_by : (w : World) (d moment : ℕ) (done : List Consumed) (why : Option Refusal) (new : World) → ConsumesNext w d moment done why new → Next w d moment done why new
next_by w d moment [] None new (end, is) = inl (refl, refl, end, is)
next_by w d moment [] (Some why) new (count, wide, some, is) = inr (inl (count, refl, ap Some some, wide, is))
next_by w d moment (c ∷ []) None new one = inr (inr (c, refl, refl, one))
next_by w d moment (c ∷ []) (Some why) new bad = absurd bad
next_by w d moment (c ∷ more ∷ rest) why new bad = absurd bad

pub next_one : (w : World) (d moment : ℕ) (a b : List Consumed) (why other : Option Refusal) (m n : World) → VersionsAreMade w → Next w d moment a why m → Next w d moment b other n → SameEnd a b why other m n
next_one w d moment a b why other m n h (inl (p, q, end, is)) (inl (p', q', end', is')) = record { done = p ∙ sym p'; refusal = q ∙ sym q'; world = is ∙ sym is' }
next_one w d moment a b why other m n h (inl (p, q, end, is)) (inr (inl (count, p', q', (made, r, much), is'))) = absurd (at_end w d moment made end r)
next_one w d moment a b why other m n h (inl (p, q, end, is)) (inr (inr (c, p', q', one))) = let (made, r, fits) = one_more w d moment c n one in absurd (at_end w d moment made end r)
next_one w d moment a b why other m n h (inr (inl (count, p, q, (made, r, much), is))) (inl (p', q', end, is')) = absurd (at_end w d moment made end r)
next_one w d moment a b why other m n h (inr (inl (count, p, q, wide, is))) (inr (inl (count', p', q', wide', is'))) =
    record { done = p ∙ sym p'; refusal = q ∙ ap (λ k. Some (VectorFull k)) (exceeds_one (widened w d) count count' wide.2 wide'.2) ∙ sym q'; world = is ∙ sym is' }
next_one w d moment a b why other m n h (inr (inl (count, p, q, wide, is))) (inr (inr (c, p', q', one))) = absurd (stops w d moment c count n wide one)
next_one w d moment a b why other m n h (inr (inr (c, p, q, one))) (inl (p', q', end, is)) = let (made, r, fits) = one_more w d moment c m one in absurd (at_end w d moment made end r)
next_one w d moment a b why other m n h (inr (inr (c, p, q, one))) (inr (inl (count, p', q', wide, is))) = absurd (stops w d moment c count m wide one)
next_one w d moment a b why other m n h (inr (inr (c, p, q, one))) (inr (inr (e, p', q', one'))) =
    let (same, world) = consumes_one_one w d moment c e m n h one one' in
    record { done = p ∙ (λ i. same i ∷ []) ∙ sym p'; refusal = q ∙ sym q'; world = world }

-- ---- pulling

takes_one : (w : World) (puller server : ℕ) (u : Update) (m n : World) → Takes w puller server u m → Takes w puller server u n → m ≡ n
takes_one w puller server u m n (fits, mid, send, adopt) (fits', mid', send', adopt') =
    adopt.2 ∙ ap (λ (z : World). with_member z puller (adopted_by u (z.at puller))) (send.1 ∙ sym send'.1) ∙ sym adopt'.2

-- what is taken was wanted
pub takes_wanted : (w : World) (puller server : ℕ) (u : Update) (new : World) → Takes w puller server u new → IsWanted w puller u
takes_wanted w puller server u new (fits, mid, send, adopt) = subst (λ (z : World). IsBetter (Covered z.all (z.at puller).known) u) send.1 adopt.1

-- so many updates, one refusal or none, and one world
record SameTaken (a b : ℕ) (why other : Option Refusal) (m n : World) : Type 0 where
  taken : a ≡ b
  refusal : why ≡ other
  world : m ≡ n

-- so many updates, one refusal or none, and one scene
record SameFiles (a b : ℕ) (why other : Option Refusal) (m n : Scene) : Type 0 where
  taken : a ≡ b
  refusal : why ≡ other
  scene : m ≡ n

-- and one list
record SamePages (l k : List Update) (a b : ℕ) (why other : Option Refusal) (m n : World) : Type 0 where
  listed : l ≡ k
  rest : SameTaken a b why other m n

pages_one : (w : World) (puller server : ℕ) (us l k : List Update) (a b : ℕ) (why other : Option Refusal) (m n : World)
    → TakesPages w puller server us l a why m → TakesPages w puller server us k b other n → SamePages l k a b why other m n
pages_one w puller server [] l k a b why other m n (e, z, q, is) (e', z', q', is') =
    record { listed = e ∙ sym e'; rest = record { taken = z ∙ sym z'; refusal = q ∙ sym q'; world = is ∙ sym is' } }
pages_one w puller server (u ∷ us) l k a b why other m n (inl (beaten, p)) (inl (beaten', p')) = pages_one w puller server us l k a b why other m n p p'
pages_one w puller server (u ∷ us) l k a b why other m n (inl (beaten, p)) (inr (inl (wanted, _, _, _, _))) = absurd (beaten wanted)
pages_one w puller server (u ∷ us) l k a b why other m n (inl (beaten, p)) (inr (inr (inl (folder, mid, others, took, _, _)))) = absurd (beaten (takes_wanted w puller server u mid took))
pages_one w puller server (u ∷ us) l k a b why other m n (inl (beaten, p)) (inr (inr (inr (folder, count, much, _, _, _, _)))) = absurd (beaten much.0)
pages_one w puller server (u ∷ us) l k a b why other m n (inr (inl (wanted, _, _, _, _))) (inl (beaten, p')) = absurd (beaten wanted)
pages_one w puller server (u ∷ us) l k a b why other m n (inr (inl (wanted, file, more, e, p))) (inr (inl (wanted', file', more', e', p'))) =
    let r = pages_one w puller server us more more' a b why other m n p p' in record { listed = e ∙ ap (λ x. u ∷ x) r.listed ∙ sym e'; rest = r.rest }
pages_one w puller server (u ∷ us) l k a b why other m n (inr (inl (wanted, file, _, _, _))) (inr (inr (inl (folder, _, _, _, _, _)))) = absurd (true_false (is_file u) file folder)
pages_one w puller server (u ∷ us) l k a b why other m n (inr (inl (wanted, file, _, _, _))) (inr (inr (inr (folder, _, _, _, _, _, _)))) = absurd (true_false (is_file u) file folder)
pages_one w puller server (u ∷ us) l k a b why other m n (inr (inr (inl (folder, mid, others, took, _, _)))) (inl (beaten, p')) = absurd (beaten (takes_wanted w puller server u mid took))
pages_one w puller server (u ∷ us) l k a b why other m n (inr (inr (inl (folder, _, _, _, _, _)))) (inr (inl (wanted, file, _, _, _))) = absurd (true_false (is_file u) file folder)
pages_one w puller server (u ∷ us) l k a b why other m n (inr (inr (inl (folder, mid, others, took, p, count)))) (inr (inr (inl (folder', mid', others', took', p', count')))) =
    let r = pages_one mid puller server us l k others others' why other m n p (subst (λ z. TakesPages z puller server us k others' other n) (sym (takes_one w puller server u mid mid' took took')) p') in
    record { listed = r.listed; rest = record { taken = count ∙ ap (λ x. x + 1) r.rest.taken ∙ sym count'; refusal = r.rest.refusal; world = r.rest.world } }
pages_one w puller server (u ∷ us) l k a b why other m n (inr (inr (inl (folder, mid, others, took, _, _)))) (inr (inr (inr (folder', count, much, _, _, _, _)))) =
    absurd (not_both (plus (w.at puller).known u.gvsn) count took.0 much.1)
pages_one w puller server (u ∷ us) l k a b why other m n (inr (inr (inr (folder, count, much, _, _, _, _)))) (inl (beaten, p')) = absurd (beaten much.0)
pages_one w puller server (u ∷ us) l k a b why other m n (inr (inr (inr (folder, _, _, _, _, _, _)))) (inr (inl (wanted, file, _, _, _))) = absurd (true_false (is_file u) file folder)
pages_one w puller server (u ∷ us) l k a b why other m n (inr (inr (inr (folder, count, much, _, _, _, _)))) (inr (inr (inl (folder', mid, others, took, _, _)))) =
    absurd (not_both (plus (w.at puller).known u.gvsn) count took.0 much.1)
pages_one w puller server (u ∷ us) l k a b why other m n (inr (inr (inr (folder, count, much, is, e, z, q)))) (inr (inr (inr (folder', count', much', is', e', z', q')))) =
    record {
      listed = e ∙ sym e';
      rest = record {
        taken = z ∙ sym z';
        refusal = q ∙ ap (λ x. Some (VectorFull x)) (exceeds_one (plus (w.at puller).known u.gvsn) count count' much.1 much'.1) ∙ sym q';
        world = is ∙ sym is';
      };
    }

-- a member's record of a file is one
pub record_one : (w : World) (d : ℕ) (u v : Update) → VersionsAreMade w → IsRecordOf w d u → IsRecordOf w d v → u.uid ≡ v.uid → u ≡ v
record_one w d u v h a b same = best_one u v (λ x y p q e. h.one_each x y p.0 q.0 e) a b same

last_one : (w : World) (d : ℕ) (u : Update) (m n : ℕ) → IsLastPending w d u.uid m → IsLastPending w d u.uid n → m ≡ n
last_one w d u m n a b =
    let (r, c, e, l, id) = a.pending in
    let (r', c', e', l', id') = b.pending in
    let below = b.last m r c e l id in
    let above = a.last n r' c' e' l' id' in
    omega (arith, below, above)

not_pending : (w : World) (d : ℕ) (u v : Update) (usn : ℕ) → IsLastPending w d u.uid usn → v.uid ≡ u.uid → IsOfFile w d v → ⊥
not_pending w d u v usn last same (held, quiet) = let (r, c, e, l, id) = last.pending in quiet (usn, r, c, e, l, id ∙ sym same)

files_one : (s : Scene) (puller server : ℕ) (us : List Update) (a b : ℕ) (why other : Option Refusal) (m n : Scene) → IsKept s
    → TakesFiles s puller server us a why m → TakesFiles s puller server us b other n → SameFiles a b why other m n
files_one s puller server [] a b why other m n h (z, q, is) (z', q', is') = record { taken = z ∙ sym z'; refusal = q ∙ sym q'; scene = is ∙ sym is' }
files_one s puller server (u ∷ us) a b why other m n h (inl (beaten, p)) (inl (beaten', p')) = files_one s puller server us a b why other m n h p p'
files_one s puller server (u ∷ us) a b why other m n h (inl (beaten, p)) (inr (inl (wanted, _, _, _, _, _))) = absurd (beaten wanted)
files_one s puller server (u ∷ us) a b why other m n h (inl (beaten, p)) (inr (inr (inl (v, given, mid, others, wanted, _, _, _, _, _, _)))) = absurd (beaten wanted)
files_one s puller server (u ∷ us) a b why other m n h (inl (beaten, p)) (inr (inr (inr (v, count, wanted, _, _, _, _, _, _)))) = absurd (beaten wanted)
files_one s puller server (u ∷ us) a b why other m n h (inr (inl (wanted, _, _, _, _, _))) (inl (beaten, p')) = absurd (beaten wanted)
files_one s puller server (u ∷ us) a b why other m n h (inr (inl (wanted, usn, last, z, q, is))) (inr (inl (wanted', usn', last', z', q', is'))) =
    record { taken = z ∙ sym z'; refusal = q ∙ ap (λ x. Some (NotYet x)) (last_one s.world server u usn usn' last last') ∙ sym q'; scene = is ∙ sym is' }
files_one s puller server (u ∷ us) a b why other m n h (inr (inl (wanted, usn, last, _, _, _))) (inr (inr (inl (v, given, mid, others, wanted', same, file, _, _, _, _)))) = absurd (not_pending s.world server u v usn last same file)
files_one s puller server (u ∷ us) a b why other m n h (inr (inl (wanted, usn, last, _, _, _))) (inr (inr (inr (v, count, wanted', same, file, _, _, _, _)))) = absurd (not_pending s.world server u v usn last same file)
files_one s puller server (u ∷ us) a b why other m n h (inr (inr (inl (v, given, mid, others, wanted, _, _, _, _, _, _)))) (inl (beaten, p')) = absurd (beaten wanted)
files_one s puller server (u ∷ us) a b why other m n h (inr (inr (inl (v, given, mid, others, wanted, same, file, _, _, _, _)))) (inr (inl (wanted', usn, last, _, _, _))) = absurd (not_pending s.world server u v usn last same file)
files_one s puller server (u ∷ us) a b why other m n h (inr (inr (inl (v, given, mid, others, wanted, same, file, gives, took, p, count)))) (inr (inr (inl (v', given', mid', others', wanted', same', file', gives', took', p', count')))) =
    let one : v ≡ v' = record_one s.world server v v' h.world.invariant.versions file.0 file'.0 (same ∙ sym same') in
    let world : mid ≡ mid' = takes_one s.world puller server v mid mid' took (subst (λ x. Takes s.world puller server x mid') (sym one) took') in
    let gave : given ≡ given' = gives_one s server v given given' h.world.invariant gives (subst (λ x. Gives s server x given') (sym one) gives') in
    let next = with_given s puller v given mid in
    let same_next : next ≡ with_given s puller v' given' mid' = λ i. with_given s puller (one i) (gave i) (world i) in
    let more = given_leads s puller server v given mid h.world (gives_sum s server v given h file gives) took in
    let r = files_one next puller server us others others' why other m n (leads_kept puller s next h more) p (subst (λ z. TakesFiles z puller server us others' other n) (sym same_next) p') in
    record { taken = count ∙ ap (λ x. x + 1) r.taken ∙ sym count'; refusal = r.refusal; scene = r.scene }
files_one s puller server (u ∷ us) a b why other m n h (inr (inr (inl (v, given, mid, others, wanted, same, file, _, took, _, _)))) (inr (inr (inr (v', count, wanted', same', file', much, _, _, _)))) =
    let one : v ≡ v' = record_one s.world server v v' h.world.invariant.versions file.0 file'.0 (same ∙ sym same') in
    absurd (not_both (plus (s.world.at puller).known v'.gvsn) count (subst (λ (x : Update). Fits (plus (s.world.at puller).known x.gvsn)) one took.0) much.1)
files_one s puller server (u ∷ us) a b why other m n h (inr (inr (inr (v, count, wanted, _, _, _, _, _, _)))) (inl (beaten, p')) = absurd (beaten wanted)
files_one s puller server (u ∷ us) a b why other m n h (inr (inr (inr (v, count, wanted, same, file, _, _, _, _)))) (inr (inl (wanted', usn, last, _, _, _))) = absurd (not_pending s.world server u v usn last same file)
files_one s puller server (u ∷ us) a b why other m n h (inr (inr (inr (v, count, wanted, same, file, much, _, _, _)))) (inr (inr (inl (v', given, mid, others, wanted', same', file', _, took, _, _)))) =
    let one : v' ≡ v = record_one s.world server v' v h.world.invariant.versions file'.0 file.0 (same' ∙ sym same) in
    absurd (not_both (plus (s.world.at puller).known v.gvsn) count (subst (λ (x : Update). Fits (plus (s.world.at puller).known x.gvsn)) one took.0) much.1)
files_one s puller server (u ∷ us) a b why other m n h (inr (inr (inr (v, count, wanted, same, file, much, is, z, q)))) (inr (inr (inr (v', count', wanted', same', file', much', is', z', q')))) =
    let one : v' ≡ v = record_one s.world server v' v h.world.invariant.versions file'.0 file.0 (same' ∙ sym same) in
    let long : count ≡ count' = exceeds_one (plus (s.world.at puller).known v.gvsn) count count' much.1 (subst (λ (x : Update). Exceeds (plus (s.world.at puller).known x.gvsn) count') one much'.1) in
    record { taken = z ∙ sym z'; refusal = q ∙ ap (λ x. Some (VectorFull x)) long ∙ sym q'; scene = is ∙ sym is' }

ends_one : (w : World) (puller : ℕ) (s : Versions) (why other : Option Refusal) (m n : World) → Ends w puller s why m → Ends w puller s other n → Alike why other m n
ends_one w puller s why other m n (inl (fits, end, q)) (inl (fits', end', q')) = (q ∙ sym q', end.2 ∙ sym end'.2)
ends_one w puller s why other m n (inl (fits, end, q)) (inr (count, much, _, _)) = absurd (not_both (both (w.at puller).known s) count fits much)
ends_one w puller s why other m n (inr (count, much, _, _)) (inl (fits, end, q)) = absurd (not_both (both (w.at puller).known s) count fits much)
ends_one w puller s why other m n (inr (count, much, q, is)) (inr (count', much', q', is')) =
    (q ∙ ap (λ x. Some (VectorFull x)) (exceeds_one (both (w.at puller).known s) count count' much much') ∙ sym q', is ∙ sym is')

-- what follows, where it is one and tells P unless it is refused
pub record SameOn {X : Type 0} (P : Type 0) (why other : Option Refusal) (m n : X) : Type 0 where
  pub refusal : why ≡ other
  pub scene : m ≡ n
  pub told : why ≡ None → P

goes_on_one : {X : Type 0} (P : Type 0) (first : Option Refusal) (mid : X) (next following : X → Option Refusal → X → Type 0) (why other : Option Refusal) (m n : X)
    → (next mid why m → following mid other n → SameOn P why other m n) → GoesOn first mid next why m → GoesOn first mid following other n → SameOn P why other m n
goes_on_one P None mid next following why other m n one a b = one a b
goes_on_one P (Some refused) mid next following why other m n one (q, is) (q', is') =
    record { refusal = q ∙ sym q'; scene = is ∙ sym is'; told = λ none. absurd (none_some refused (sym none ∙ q)) }

-- the end behind the files
abbrev Closes : ℕ → Versions → Scene → Option Refusal → Scene → Type 0
Closes puller versions filed why new = (w : World) × Ends filed.world puller versions why w × (new ≡ in_world filed w)

closes_one : (P : Type 0) (s : Scene) (puller : ℕ) (versions : Versions) (why other : Option Refusal) (m n : Scene) → P → Closes puller versions s why m → Closes puller versions s other n → SameOn P why other m n
closes_one P s puller versions why other m n told (w, ends, is) (w', ends', is') =
    let (q, same) = ends_one s.world puller versions why other w w' ends ends' in
    record { refusal = q; scene = is ∙ (ap (in_world s) same ∙ sym is'); told = λ none. told }

rest_one : (s : Scene) (puller server : ℕ) (versions : Versions) (listed : List Update) (a b : ℕ) (why other : Option Refusal) (m n : Scene) → IsKept s
    → Rest puller server versions listed a s why m → Rest puller server versions listed b s other n → SameOn (a ≡ b) why other m n
rest_one s puller server versions listed a b why other m n h (second, last, files, on) (second', last', files', on') =
    let same = files_one s puller server listed a b second second' last last' h files files' in
    goes_on_one (a ≡ b) second last (Closes puller versions) (Closes puller versions) why other m n (λ e e'. closes_one (a ≡ b) last puller versions why other m n same.taken e e')
    on (subst (λ z. GoesOn second z (Closes puller versions) other n) (sym same.scene) (subst (λ z. GoesOn z last' (Closes puller versions) other n) (sym same.refusal) on'))

pub pulls_one : (s : Scene) (puller server a b : ℕ) (why other : Option Refusal) (m n : Scene) → IsKept s → Pulls s puller server a why m → Pulls s puller server b other n → SameOn (a ≡ b) why other m n
pulls_one s puller server a b why other m n h (sent, page, listed, at_once, fetched, first, mid, send, asked, pages, on, count) (sent', page', listed', at_once', fetched', first', mid', send', asked', pages', on', count') =
    record { refusal = r.refusal; scene = r.scene; told = λ none. count ∙ (λ i. one.rest.taken i + r.told none i) ∙ sym count' }
  where
    w : World
    w = s.world

    versions : Versions
    versions = (w.at server).known

    one : SamePages listed listed' at_once at_once' first first' mid mid'
    one = pages_one sent puller server page listed listed' at_once at_once' first first' mid mid' pages
        (subst (λ us. TakesPages sent puller server us listed' at_once' first' mid') (page_one w puller server page' page asked' asked)
        (subst (λ z. TakesPages z puller server page' listed' at_once' first' mid') (send' ∙ sym send) pages'))

    there : IsKept (in_world s mid)
    there = leads_kept puller s (in_world s mid) h (paged_leads s puller server sent page listed at_once first mid h send pages)

    r : SameOn (fetched ≡ fetched') why other m n
    r = goes_on_one (fetched ≡ fetched') first (in_world s mid) (Rest puller server versions listed fetched) (Rest puller server versions listed fetched') why other m n
        (rest_one (in_world s mid) puller server versions listed fetched fetched' why other m n there)
        on (subst (λ z. GoesOn first (in_world s z) (Rest puller server versions listed fetched') other n) (sym one.rest.world)
        (subst (λ z. GoesOn z (in_world s mid') (Rest puller server versions listed fetched') other n) (sym one.rest.refusal)
        (subst (λ us. GoesOn first' (in_world s mid') (Rest puller server versions us fetched') other n) (sym one.listed) on')))
