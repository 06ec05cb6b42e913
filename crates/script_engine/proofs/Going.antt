-- Consuming and pulling lead on.
use Rattle.std.proofs.Common.{◌≡◌, ◌≢◌, ◌<◌, ◌≤◌, ◌+◌, ◌^◌, ◌⊎◌, ℕ, zero, suc, Bool, true, false, leb, List, [], ◌∷◌, refl, sym, ap, ◌∙◌, subst, arith, inl, inr, Option, Some, None}
use Rattle.std.proofs.lemmas.Bool.{cases_eq}
use Rattle.std.proofs.lemmas.Bool.Decides.{nat_tests}
use Rattle.frs_base.specs.Options.{In}
use Rattle.frs_base.specs.declared.version.Uid.{Uid}
use Rattle.win_order.specs.declared.update.Update.{Update}
use Rattle.vol_state.specs.declared.record.VolRecord.{VolRecord}
use Rattle.record_db.specs.Records.{IsHeldOrBeaten, IsRecord, Versions, both, plus}
use Rattle.record_db.proofs.Best.{covered_held, held_is}
use Rattle.record_db.proofs.Keys.{uid_cases}
use Rattle.name_rules.specs.Next.{IsPending}
use Rattle.name_rules.specs.Tree.{is_file}
use Rattle.world_model.specs.World.{Member, World, IsRecordOf, with_member}
use Rattle.world_model.specs.Events.{IsAllHeld, IsOfFile, IsOfPage, Records, WasSentVector, adopted_by, consumed_by, consumes, finished_by, sends_update, sends_vector}
use Rattle.world_model.specs.Rounds.{IsWanted}
use Rattle.world_model.specs.Runs.{Grows}
use Rattle.world_model.proofs.Changing.{at_same}
use Rattle.world_model.proofs.Facts.{none_some, some_is, true_false}
use Rattle.world_model.proofs.Rounds.{adopted_is_held, held_stays, not_better}
use Rattle.script_engine.specs.Sound.{IsSoundWorld}
use Rattle.script_engine.specs.declared.refusal.Refusal.{Refusal}
use Rattle.script_engine.specs.declared.refusal.Refusal.TheVariants.{NotYet, VectorFull}
use Rattle.script_engine.specs.declared.consumed.Consumed.{Consumed}
use Rattle.script_engine.specs.declared.consumed.Consumed.TheVariants.{Made, Skipped}
use Rattle.script_engine.specs.Consuming.{ConsumesAll, ConsumesNext, ConsumesOne, IsAtEnd, IsTooWide, widened}
use Rattle.script_engine.specs.Pulling.{Ends, GoesOn, IsAsked, IsLastPending, Pulls, Rest, Takes, TakesFiles, TakesPages, with_given}
use Rattle.script_engine.specs.Scene.{Scene, in_world}
use Rattle.script_engine.proofs.Gives.{GivenSum, IsKept, gives_some, gives_sum}
use Rattle.script_engine.proofs.Leading.{leads_kept}
use Rattle.script_engine.proofs.Pulled.{files_lead, given_leads, paged_leads}
use Rattle.script_engine.specs.Widening.{Exceeds, Fits}
use Rattle.script_engine.proofs.Once.{record_one}
use Rattle.script_engine.proofs.Passing.{Passes, pages_pass, passes_consume, passes_trans, passes_update, passes_vector, takes_passes}
use Rattle.script_engine.proofs.Listed.{page_some, wanted_or}
use Rattle.script_engine.proofs.Vectors.{HasVector, fits_or_exceeds, vector_both, vector_plus}

-- ---- tests

bool_or : (b : Bool) → (b ≡ true) ⊎ (b ≡ false)
bool_or true = inl refl
bool_or false = inr refl

-- ---- consuming

-- a record is left, or none
left_or : (w : World) (d moment : ℕ) → IsAtEnd w d ⊎ ((made : Option Update) × Records w d moment made)
left_or w d moment = by ((w.at d).volume.entry (w.at d).consumed) refl
  where
    by : (found : Option VolRecord) → (w.at d).volume.entry (w.at d).consumed ≡ found → IsAtEnd w d ⊎ ((made : Option Update) × Records w d moment made)
    by None e = inl e
    by (Some r) e = let (held, h) = held_is w.all (w.at d).known r.uid in inr (_, (r, held, e, h, refl))

-- it is consumed, or is too wide
one_or : (w : World) (d moment : ℕ) (made : Option Update) → IsSoundWorld w → Records w d moment made
    → ((c : Consumed) × ConsumesOne w d moment c (consumes w d made)) ⊎ ((count : ℕ) × IsTooWide w d moment count)
one_or w d moment made h r = by made r (fits_or_exceeds (widened w d) (vector_plus (w.at d).known (record { db = d; version = (w.at d).consumed }) (h.vectors d)))
  where
    by : (made : Option Update) → Records w d moment made → Fits (widened w d) ⊎ ((count : ℕ) × Exceeds (widened w d) count)
        → ((c : Consumed) × ConsumesOne w d moment c (consumes w d made)) ⊎ ((count : ℕ) × IsTooWide w d moment count)
    by made r (inr (count, much)) = inr (count, (made, r, much))
    by None r (inl fits) = inl (Skipped (w.at d).consumed, (refl, fits, r, refl))
    by (Some u) r (inl fits) = inl (Made (w.at d).consumed, (refl, fits, u, r, refl))

pub consumes_next_some : (w : World) (d moment : ℕ) → IsSoundWorld w → (done : List Consumed) × (why : Option Refusal) × (new : World) × ConsumesNext w d moment done why new
consumes_next_some w d moment h = elim (left_or w d moment) [
  | inl end ↦ ([], None, w, (end, refl))
  | inr (made, r) ↦ elim (one_or w d moment made h r) [
    | inl (c, one) ↦ (c ∷ [], None, consumes w d made, one)
    | inr (count, wide) ↦ ([], Some (VectorFull count), w, (count, wide, refl, refl))
  ]
]

abbrev Consumes : World → ℕ → ℕ → Type 0
Consumes w d moment = (done : List Consumed) × (why : Option Refusal) × (new : World) × ConsumesAll w d moment done why new

-- a record is left only below the next USN
left_within : (w : World) (d moment : ℕ) (made : Option Update) → IsSoundWorld w → Records w d moment made → (w.at d).consumed < (w.at d).volume.next_usn
left_within w d moment made h (r, held, at, is_held, is) = (h.invariant.members d).numbers.entries (w.at d).consumed r at

-- with one record more before those of the world behind it
consumes_more : (n : ℕ) (w : World) (d moment : ℕ) → moment < 2 ^ 61 → IsSoundWorld w → (w.at d).volume.next_usn ≤ (w.at d).consumed + suc n
    → ((mid : World) → IsSoundWorld mid → (mid.at d).volume.next_usn ≤ (mid.at d).consumed + n → Consumes mid d moment) → (made : Option Update) → Records w d moment made → Consumes w d moment
consumes_more n w d moment early h most more made r = elim (one_or w d moment made h r) [
  | inr (count, wide) ↦ ([], Some (VectorFull count), w, inr (count, wide, refl, refl))
  | inl (c, one) ↦ (
      let mid = consumes w d made in
      let p = passes_consume w d moment made mid early h r refl in
      let here : mid.at d ≡ consumed_by d made (w.at d) = at_same w.at d (consumed_by d made (w.at d)) in
      let usn : (mid.at d).volume.next_usn ≡ (w.at d).volume.next_usn = ap (λ (x : Member). x.volume.next_usn) here in
      let next : (mid.at d).consumed ≡ (w.at d).consumed + 1 = ap (λ (x : Member). x.consumed) here in
      let (cs, why, new, all) = more mid p.sound (omega (arith, most, usn, next)) in
      (c ∷ cs, why, new, (mid, one, all))
      )
]

consumes_some_by : (n : ℕ) (w : World) (d moment : ℕ) → moment < 2 ^ 61 → IsSoundWorld w → (w.at d).volume.next_usn ≤ (w.at d).consumed + n → Consumes w d moment
consumes_some_by zero w d moment early h most = elim (left_or w d moment) [
  | inl end ↦ ([], None, w, inl (end, refl, refl))
  | inr (made, r) ↦ absurd (let k = left_within w d moment made h r in omega (arith, most, k))
]
consumes_some_by (suc n) w d moment early h most = elim (left_or w d moment) [
  | inl end ↦ ([], None, w, inl (end, refl, refl))
  | inr (made, r) ↦ consumes_more n w d moment early h most (λ mid sound less. consumes_some_by n mid d moment early sound less) made r
]

pub consumes_all_some : (w : World) (d moment : ℕ) → moment < 2 ^ 61 → IsSoundWorld w → Consumes w d moment
consumes_all_some w d moment early h = consumes_some_by (w.at d).volume.next_usn w d moment early h (omega arith)

-- ---- pages

-- All stays
takes_all : (w : World) (puller server : ℕ) (u : Update) (new : World) → Takes w puller server u new → new.all ≡ w.all
takes_all w puller server u new (fits, mid, send, adopt) = ap (λ (z : World). z.all) adopt.2 ∙ ap (λ (z : World). z.all) send.1

pages_all : (w : World) (puller server : ℕ) (us listed : List Update) (taken : ℕ) (why : Option Refusal) (new : World) → TakesPages w puller server us listed taken why new → new.all ≡ w.all
pages_all w puller server [] listed taken why new (e, z, q, is) = ap (λ (z : World). z.all) is
pages_all w puller server (u ∷ us) listed taken why new (inl (beaten, p)) = pages_all w puller server us listed taken why new p
pages_all w puller server (u ∷ us) listed taken why new (inr (inl (wanted, file, more, e, p))) = pages_all w puller server us more taken why new p
pages_all w puller server (u ∷ us) listed taken why new (inr (inr (inl (folder, mid, others, took, p, count)))) = pages_all mid puller server us listed others why new p ∙ takes_all w puller server u mid took
pages_all w puller server (u ∷ us) listed taken why new (inr (inr (inr (folder, count, much, is, e, z, q)))) = ap (λ (z : World). z.all) is

files_all : (s : Scene) (puller server : ℕ) (us : List Update) (taken : ℕ) (why : Option Refusal) (new : Scene) → TakesFiles s puller server us taken why new → new.world.all ≡ s.world.all
files_all s puller server [] taken why new (z, q, is) = ap (λ (x : Scene). x.world.all) is
files_all s puller server (u ∷ us) taken why new (inl (beaten, p)) = files_all s puller server us taken why new p
files_all s puller server (u ∷ us) taken why new (inr (inl (wanted, usn, last, z, q, is))) = ap (λ (x : Scene). x.world.all) is
files_all s puller server (u ∷ us) taken why new (inr (inr (inl (v, given, mid, others, wanted, same, file, gives, took, p, count)))) =
    files_all (with_given s puller v given mid) puller server us others why new p ∙ takes_all s.world puller server v mid took
files_all s puller server (u ∷ us) taken why new (inr (inr (inr (v, count, wanted, same, file, much, is, z, q)))) = ap (λ (x : Scene). x.world.all) is

-- an update that is sent is adopted, where it is wanted and fits
take : (w : World) (puller server : ℕ) (u : Update) → IsWanted w puller u → Fits (plus (w.at puller).known u.gvsn) → IsOfPage w server u ⊎ IsOfFile w server u → (new : World) × Takes w puller server u new
take w puller server u wanted fits of =
    let mid = sends_update w server u in
    (with_member mid puller (adopted_by u (w.at puller)), (fits, mid, (of, refl), ((server, inl refl), wanted, refl)))

-- what is listed is of the page
pages_list : (w : World) (puller server : ℕ) (us listed : List Update) (taken : ℕ) (why : Option Refusal) (new : World) → TakesPages w puller server us listed taken why new → (v : Update) → In v listed → In v us
pages_list w puller server [] listed taken why new (e, z, q, is) v a = subst (In v) e a
pages_list w puller server (u ∷ us) listed taken why new (inl (beaten, p)) v a = inr (pages_list w puller server us listed taken why new p v a)
pages_list w puller server (u ∷ us) listed taken why new (inr (inl (wanted, file, more, e, p))) v a =
    elim (subst (In v) e a) [ inl s ↦ inl s | inr k ↦ inr (pages_list w puller server us more taken why new p v k) ]
pages_list w puller server (u ∷ us) listed taken why new (inr (inr (inl (folder, mid, others, took, p, count)))) v a = inr (pages_list mid puller server us listed others why new p v a)
pages_list w puller server (u ∷ us) listed taken why new (inr (inr (inr (folder, count, much, is, e, z, q)))) v a = absurd (subst (In v) e a)

-- what was taken is held or beaten from then on
took_held : (w : World) (puller server : ℕ) (u : Update) (mid : World) → IsSoundWorld w → Takes w puller server u mid → IsHeldOrBeaten (IsRecordOf mid puller) u
took_held w puller server u mid h (fits, sent, send, adopt) =
    let p = passes_update w puller server u sent h send in
    adopted_is_held sent puller u mid p.sound.invariant.versions p.sound.invariant.sent adopt

-- each of the page is listed, or held or beaten
pages_held : (w : World) (puller server : ℕ) (us listed : List Update) (taken : ℕ) (why : Option Refusal) (new : World) → IsSoundWorld w → TakesPages w puller server us listed taken why new → why ≡ None
    → (v : Update) → In v us → In v listed ⊎ IsHeldOrBeaten (IsRecordOf new puller) v
pages_held w puller server [] listed taken why new h p none v a = absurd a
pages_held w puller server (u ∷ us) listed taken why new h (inl (beaten, p)) none v (inr a) = pages_held w puller server us listed taken why new h p none v a
pages_held w puller server (u ∷ us) listed taken why new h (inl (beaten, p)) none v (inl e) =
    inr (subst (IsHeldOrBeaten (IsRecordOf new puller)) (sym e) (held_stays w new puller u (pages_pass w puller server us listed taken why new h p).grows (not_better w puller u beaten)))
pages_held w puller server (u ∷ us) listed taken why new h (inr (inl (wanted, file, more, s, p))) none v (inl e) = inl (subst (In v) (sym s) (inl e))
pages_held w puller server (u ∷ us) listed taken why new h (inr (inl (wanted, file, more, s, p))) none v (inr a) =
    elim (pages_held w puller server us more taken why new h p none v a) [ inl k ↦ inl (subst (In v) (sym s) (inr k)) | inr k ↦ inr k ]
pages_held w puller server (u ∷ us) listed taken why new h (inr (inr (inl (folder, mid, others, took, p, count)))) none v (inl e) =
    let q = takes_passes w puller server u mid h took in
    inr (subst (IsHeldOrBeaten (IsRecordOf new puller)) (sym e) (held_stays mid new puller u (pages_pass mid puller server us listed others why new q.sound p).grows (took_held w puller server u mid h took)))
pages_held w puller server (u ∷ us) listed taken why new h (inr (inr (inl (folder, mid, others, took, p, count)))) none v (inr a) =
    pages_held mid puller server us listed others why new (takes_passes w puller server u mid h took).sound p none v a
pages_held w puller server (u ∷ us) listed taken why new h (inr (inr (inr (folder, count, much, is, e, z, q)))) none v a = absurd (none_some (VectorFull count) (sym none ∙ q))

-- ---- a member's records while another's grow

-- the member, and all updates, are as they were
record Stays (d : ℕ) (w new : World) : Type 0 where
  all : new.all ≡ w.all
  member : w.at d ≡ new.at d

stays_record : (d : ℕ) (w new : World) → Stays d w new → (u : Update) → IsRecordOf w d u → IsRecordOf new d u
stays_record d w new s u r = subst (λ (x : Member). IsRecord new.all x.known u) s.member (subst (λ l. IsRecord l (w.at d).known u) (sym s.all) r)

took_stays : (w : World) (puller server : ℕ) (u : Update) (new : World) → IsSoundWorld w → server ≢ puller → Takes w puller server u new → Stays server w new
took_stays w puller server u new h apart took = record { all = takes_all w puller server u new took; member = (takes_passes w puller server u new h took).others server apart }

-- ---- files

-- each that is listed is held or beaten
files_held : (s : Scene) (puller server : ℕ) (us : List Update) (taken : ℕ) (why : Option Refusal) (new : Scene) → IsKept s → server ≢ puller → ((u : Update) → In u us → IsRecordOf s.world server u)
    → TakesFiles s puller server us taken why new → why ≡ None → (v : Update) → In v us → IsHeldOrBeaten (IsRecordOf new.world puller) v
files_held s puller server [] taken why new h apart are p none v a = absurd a
files_held s puller server (u ∷ us) taken why new h apart are (inl (beaten, p)) none v (inr a) = files_held s puller server us taken why new h apart (λ x k. are x (inr k)) p none v a
files_held s puller server (u ∷ us) taken why new h apart are (inl (beaten, p)) none v (inl e) =
    subst (IsHeldOrBeaten (IsRecordOf new.world puller)) (sym e) (held_stays s.world new.world puller u (files_lead s puller server us taken why new h p).passes.grows (not_better s.world puller u beaten))
files_held s puller server (u ∷ us) taken why new h apart are (inr (inl (wanted, usn, last, z, q, is))) none v a = absurd (none_some (NotYet usn) (sym none ∙ q))
files_held s puller server (u ∷ us) taken why new h apart are (inr (inr (inl (x, given, mid, others, wanted, same, file, gives, took, p, count)))) none v (inl e) =
    let w = s.world in
    let one : x ≡ v = record_one w server x v h.world.invariant.versions file.0 (subst (IsRecordOf w server) (sym e) (are u (inl refl))) (same ∙ ap (λ z. z.uid) (sym e)) in
    let next = with_given s puller x given mid in
    let l = given_leads s puller server x given mid h.world (gives_sum s server x given h file gives) took in
    subst (IsHeldOrBeaten (IsRecordOf new.world puller)) one (held_stays mid new.world puller x (files_lead next puller server us others why new (leads_kept puller s next h l) p).passes.grows (took_held w puller server x mid h.world took))
files_held s puller server (u ∷ us) taken why new h apart are (inr (inr (inl (x, given, mid, others, wanted, same, file, gives, took, p, count)))) none v (inr a) =
    let next = with_given s puller x given mid in
    let l = given_leads s puller server x given mid h.world (gives_sum s server x given h file gives) took in
    files_held next puller server us others why new (leads_kept puller s next h l) apart
    (λ y k. stays_record server s.world mid (took_stays s.world puller server x mid h.world apart took) y (are y (inr k))) p none v a
files_held s puller server (u ∷ us) taken why new h apart are (inr (inr (inr (x, count, wanted, same, file, much, is, z, q)))) none v a = absurd (none_some (VectorFull count) (sym none ∙ q))

-- ---- pages lead on

-- an update that a round asks for: its vector was sent, and the update wins there
record IsSent (w : World) (server : ℕ) (s : Versions) (u : Update) : Type 0 where
  sent : In (record { from = server; versions = s }) w.vectors
  wins : IsRecord w.all s u

sent_later : (w new : World) (server : ℕ) (s : Versions) (u : Update) → new.all ≡ w.all → Grows w new → IsSent w server s u → IsSent new server s u
sent_later w new server s u all grows i = record { sent = grows.vectors _ i.sent; wins = subst (λ l. IsRecord l s u) (sym all) i.wins }

abbrev SomePages : World → ℕ → ℕ → List Update → Type 0
SomePages w puller server us = (listed : List Update) × (taken : ℕ) × (why : Option Refusal) × (new : World) × TakesPages w puller server us listed taken why new

-- a directory or a tombstone is taken, or doesn't fit
page_takes : (w : World) (puller server : ℕ) (s : Versions) (u : Update) (us : List Update) → IsSoundWorld w → IsSent w server s u → IsWanted w puller u → is_file u ≡ false
    → ((mid : World) → Takes w puller server u mid → SomePages mid puller server us) → SomePages w puller server (u ∷ us)
page_takes w puller server s u us h sent wanted folder more = elim (fits_or_exceeds (plus (w.at puller).known u.gvsn) (vector_plus (w.at puller).known u.gvsn (h.vectors puller))) [
  | inr (count, much) ↦ ([], 0, Some (VectorFull count), w, inr (inr (inr (folder, count, (wanted, much), refl, refl, refl, refl))))
  | inl fits ↦ (
      let (mid, took) = take w puller server u wanted fits (inl (s, sent.sent, sent.wins)) in
      let (listed, others, why, new, p) = more mid took in
      (listed, others + 1, why, new, inr (inr (inl (folder, mid, others, took, p, refl))))
      )
]

pages_some : (w : World) (puller server : ℕ) (s : Versions) (us : List Update) → IsSoundWorld w → ((u : Update) → In u us → IsSent w server s u) → SomePages w puller server us
pages_some w puller server s [] h sent = ([], 0, None, w, (refl, refl, refl, refl))
pages_some w puller server s (u ∷ us) h sent = elim (wanted_or w puller u h.invariant.versions) [
  | inr beaten ↦ (let (listed, taken, why, new, p) = pages_some w puller server s us h (λ x a. sent x (inr a)) in (listed, taken, why, new, inl (beaten, p)))
  | inl wanted ↦ elim (bool_or (is_file u)) [
    | inl file ↦ (let (listed, taken, why, new, p) = pages_some w puller server s us h (λ x a. sent x (inr a)) in (u ∷ listed, taken, why, new, inr (inl (wanted, file, listed, refl, p))))
    | inr folder ↦ page_takes w puller server s u us h (sent u (inl refl)) wanted folder
        (λ mid took. let p = takes_passes w puller server u mid h took in pages_some mid puller server s us p.sound (λ x a. sent_later w mid server s x (takes_all w puller server u mid took) p.grows (sent x (inr a))))
  ]
]

-- ---- files lead on

-- the last local record of a file that is left, or none
abbrev SomePending : World → ℕ → Uid → Type 0
SomePending w d uid = ((usn : ℕ) × IsLastPending w d uid usn) ⊎ (IsPending (w.at d).consumed (w.at d).volume uid → ⊥)

-- a local record of the file that isn't consumed
abbrev Pends : World → ℕ → Uid → ℕ → Type 0
Pends w d uid n = (r : VolRecord) × ((w.at d).consumed ≤ n) × ((w.at d).volume.entry n ≡ Some r) × (r.local ≡ true) × (r.uid ≡ uid)

pends_or : (w : World) (d : ℕ) (uid : Uid) (n : ℕ) → Pends w d uid n ⊎ (Pends w d uid n → ⊥)
pends_or w d uid n = by ((w.at d).volume.entry n) refl
  where
    test : (r : VolRecord) → (w.at d).volume.entry n ≡ Some r → (a b : Bool) → leb (w.at d).consumed n ≡ a → r.local ≡ b → (r.uid ≡ uid) ⊎ (r.uid ≢ uid) → Pends w d uid n ⊎ (Pends w d uid n → ⊥)
    test r e true true p q (inl s) = inl (r, grind (arith, nat_tests), e, q, s)
    test r e true true p q (inr other) = inr (λ (x, c, f, l, s). other (ap (λ (z : VolRecord). z.uid) (some_is r x (sym e ∙ f)) ∙ s))
    test r e true false p q s = inr (λ (x, c, f, l, id). true_false r.local (ap (λ (z : VolRecord). z.local) (some_is r x (sym e ∙ f)) ∙ l) q)
    test r e false b p q s = inr (λ (x, c, f, l, id). above c p)
      where
        above : (w.at d).consumed ≤ n → leb (w.at d).consumed n ≡ false → ⊥
        above c k = grind (arith, nat_tests)

    by : (found : Option VolRecord) → (w.at d).volume.entry n ≡ found → Pends w d uid n ⊎ (Pends w d uid n → ⊥)
    by None e = inr (λ (r, c, f, l, s). none_some r (sym e ∙ f))
    by (Some r) e = test r e (leb (w.at d).consumed n) r.local refl refl (uid_cases r.uid uid)

pending_below : (n : ℕ) (w : World) (d : ℕ) (uid : Uid) → ((k : ℕ) → n ≤ k → Pends w d uid k → ⊥) → SomePending w d uid
pending_below zero w d uid none = inr (λ (k, r, c, e, l, s). none k (omega arith) (r, c, e, l, s))
pending_below (suc n) w d uid none = elim (pends_or w d uid n) [
  | inl here ↦ inl (n, record { pending = here; last = λ k r c e l s. below k (none k) (r, c, e, l, s) })
  | inr not_here ↦ pending_below n w d uid (λ k from p. elim (cases_eq k n) [ inl same ↦ not_here (subst (Pends w d uid) same p) | inr other ↦ none k (omega (arith, from, other)) p ])
]
  where
    below : (k : ℕ) → (suc n ≤ k → Pends w d uid k → ⊥) → Pends w d uid k → k ≤ n
    below k over p = by (leb k n) refl
      where
        past : leb k n ≡ false → suc n ≤ k
        past e = grind (arith, nat_tests)

        by : (b : Bool) → leb k n ≡ b → k ≤ n
        by true e = grind (arith, nat_tests)
        by false e = absurd (over (past e) p)

pending_or : (w : World) (d : ℕ) (uid : Uid) → IsSoundWorld w → SomePending w d uid
pending_or w d uid h = pending_below (w.at d).volume.next_usn w d uid (λ k from (r, c, e, l, s). let within = (h.invariant.members d).numbers.entries k r e in omega (arith, within, from))

abbrev SomeFiles : Scene → ℕ → ℕ → List Update → Type 0
SomeFiles s puller server us = (taken : ℕ) × (why : Option Refusal) × (new : Scene) × TakesFiles s puller server us taken why new

-- a file is taken, or doesn't fit
file_takes : (s : Scene) (puller server : ℕ) (u : Update) (us : List Update) → IsKept s → IsWanted s.world puller u → IsOfFile s.world server u
    → ((given : Option (List ℕ)) (mid : World) → GivenSum u given → Takes s.world puller server u mid → SomeFiles (with_given s puller u given mid) puller server us) → SomeFiles s puller server (u ∷ us)
file_takes s puller server u us h wanted file more = elim (fits_or_exceeds (plus (s.world.at puller).known u.gvsn) (vector_plus (s.world.at puller).known u.gvsn (h.world.vectors puller))) [
  | inr (count, much) ↦ (0, Some (VectorFull count), s, inr (inr (inr (u, count, wanted, refl, file, (wanted, much), refl, refl, refl))))
  | inl fits ↦ (
      let (mid, took) = take s.world puller server u wanted fits (inr file) in
      let (given, gives, sum) = gives_some s server u h file in
      let (others, why, new, p) = more given mid sum took in
      (others + 1, why, new, inr (inr (inl (u, given, mid, others, wanted, refl, file, gives, took, p, refl))))
      )
]

files_some : (s : Scene) (puller server : ℕ) (us : List Update) → IsKept s → server ≢ puller → ((u : Update) → In u us → IsRecordOf s.world server u) → SomeFiles s puller server us
files_some s puller server [] h apart are = (0, None, s, (refl, refl, refl))
files_some s puller server (u ∷ us) h apart are = elim (wanted_or s.world puller u h.world.invariant.versions) [
  | inr beaten ↦ (let (taken, why, new, p) = files_some s puller server us h apart (λ x a. are x (inr a)) in (taken, why, new, inl (beaten, p)))
  | inl wanted ↦ elim (pending_or s.world server u.uid h.world) [
    | inl (usn, last) ↦ (0, Some (NotYet usn), s, inr (inl (wanted, usn, last, refl, refl, refl)))
    | inr quiet ↦ file_takes s puller server u us h wanted (are u (inl refl), quiet)
        (λ given mid sum took. files_some (with_given s puller u given mid) puller server us (leads_kept puller s (with_given s puller u given mid) h (given_leads s puller server u given mid h.world sum took)) apart
        (λ x a. stays_record server s.world mid (took_stays s.world puller server u mid h.world apart took) x (are x (inr a))))
  ]
]

-- ---- the end

ends_some : (w : World) (puller : ℕ) (s : Versions) → IsSoundWorld w → HasVector s → WasSentVector w s → IsAllHeld w puller s → (why : Option Refusal) × (new : World) × Ends w puller s why new
ends_some w puller s h vector sent held = elim (fits_or_exceeds (both (w.at puller).known s) (vector_both (w.at puller).known s (h.vectors puller) vector)) [
  | inl fits ↦ (None, with_member w puller (finished_by s (w.at puller)), inl (fits, (sent, held, refl), refl))
  | inr (count, much) ↦ (Some (VectorFull count), w, inr (count, much, refl, refl))
]

-- ---- a pull

abbrev SomePull : Scene → ℕ → ℕ → Type 0
SomePull s puller server = (taken : ℕ) × (why : Option Refusal) × (new : Scene) × Pulls s puller server taken why new

pub pulls_some : (s : Scene) (puller server : ℕ) → IsKept s → server ≢ puller → SomePull s puller server
pulls_some s puller server h apart = pull (pages_some sent puller server S page p.sound (λ u a. record { sent = inl refl; wins = (asked.each u a).0 }))
  where
    w : World
    w = s.world

    S : Versions
    S = (w.at server).known

    sent : World
    sent = sends_vector w server

    p : Passes puller w sent
    p = passes_vector w puller server sent h.world refl

    page : List Update
    page = (page_some w puller server h.world.invariant.versions).0

    asked : IsAsked w puller server page
    asked = (page_some w puller server h.world.invariant.versions).1

    -- what the vector covers is held or beaten at the end
    all_held : (listed : List Update) (at_once fetched : ℕ) (mid : World) (last : Scene) → TakesPages sent puller server page listed at_once None mid → TakesFiles (in_world s mid) puller server listed fetched None last
        → IsKept (in_world s mid) → Grows w last.world → Grows mid last.world → last.world.all ≡ w.all → ((u : Update) → In u listed → IsRecordOf mid server u) → IsAllHeld last.world puller S
    all_held listed at_once fetched mid last pages files kept whole rest all are u r = by ((w.at puller).known u.gvsn) refl
      where
        wins : IsRecordOf w server u
        wins = subst (λ l. IsRecord l S u) all r

        by : (b : Bool) → (w.at puller).known u.gvsn ≡ b → IsHeldOrBeaten (IsRecordOf last.world puller) u
        by true e = held_stays w last.world puller u whole (covered_held w.all (w.at puller).known u (wins.among.0, e))
        by false e = elim (pages_held sent puller server page listed at_once None mid p.sound pages refl u (asked.whole u wins e)) [
          | inl a ↦ files_held (in_world s mid) puller server listed fetched None last kept apart are files refl u a
          | inr held ↦ held_stays mid last.world puller u rest held
        ]

    pull : SomePages sent puller server page → SomePull s puller server
    pull (listed, at_once, first, mid, pages) = by first pages (files_some (in_world s mid) puller server listed kept apart are)
      where
        q : Passes puller sent mid
        q = pages_pass sent puller server page listed at_once first mid p.sound pages

        kept : IsKept (in_world s mid)
        kept = leads_kept puller s (in_world s mid) h (paged_leads s puller server sent page listed at_once first mid h refl pages)

        all : mid.all ≡ w.all
        all = pages_all sent puller server page listed at_once first mid pages

        are : (u : Update) → In u listed → IsRecordOf mid server u
        are u a = stays_record server w mid (record { all = all; member = p.others server apart ∙ q.others server apart }) u (asked.each u (pages_list sent puller server page listed at_once first mid pages u a)).0

        done : (first : Option Refusal) → TakesPages sent puller server page listed at_once first mid → (fetched : ℕ) (why : Option Refusal) (new : Scene) → GoesOn first (in_world s mid) (Rest puller server S listed fetched) why new
            → SomePull s puller server
        done first pages fetched why new on = (at_once + fetched, why, new, (sent, page, listed, at_once, fetched, first, mid, refl, asked, pages, on, refl))

        ends : (second : Option Refusal) (fetched : ℕ) (last : Scene) → TakesPages sent puller server page listed at_once None mid → TakesFiles (in_world s mid) puller server listed fetched second last → SomePull s puller server
        ends (Some refused) fetched last pages files = done None pages fetched (Some refused) last (Some refused, last, files, (refl, refl))
        ends None fetched last pages files =
            let r = (files_lead (in_world s mid) puller server listed fetched None last kept files).passes in
            let whole = passes_trans puller w mid last.world (passes_trans puller w sent mid p q) r in
            let (why, new, end) = ends_some last.world puller S r.sound (h.world.vectors server) (server, (passes_trans puller sent mid last.world q r).grows.vectors _ (inl refl))
            (all_held listed at_once fetched mid last pages files kept whole.grows r.grows (files_all (in_world s mid) puller server listed fetched None last files ∙ all) are) in
            done None pages fetched why (in_world last new) (None, last, files, (new, end, refl))

        by : (first : Option Refusal) → TakesPages sent puller server page listed at_once first mid → SomeFiles (in_world s mid) puller server listed → SomePull s puller server
        by (Some refused) pages files = done (Some refused) pages 0 (Some refused) (in_world s mid) (refl, refl)
        by None pages (fetched, second, last, files) = ends second fetched last pages files
