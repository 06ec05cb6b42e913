-- A whole pull of its parts.
use Rattle.std.proofs.Common.{◌≡◌, ◌+◌, ℕ, Bool, true, false, List, [], ◌∷◌, refl, sym, subst, inl, inr, Option, Some, None, Ok, Err}
use Rattle.std.specs.Prelude.{slice_get}
use Rattle.frs_base.specs.Identifiers.{database_of}
use Rattle.frs_base.specs.Options.{In}
use Rattle.version_vector.specs.declared.interval.Interval.{Interval}
use Rattle.win_order.specs.declared.update.Update.{Update}
use Rattle.record_db.specs.Records.{IsHeldOrBeaten, IsRecord, Versions}
use Rattle.record_db.proofs.Best.{covered_held}
use Rattle.world_model.specs.World.{World, IsRecordOf}
use Rattle.world_model.specs.Events.{sends_vector}
use Rattle.world_model.specs.Invariant.{VersionsAreMade}
use Rattle.world_model.specs.Runs.{Grows}
use Rattle.world_model.proofs.Growth.{grows_trans, stays}
use Rattle.world_model.proofs.Puts.{record_stayed}
use Rattle.world_model.proofs.Rounds.{held_stays}
use Rattle.pinned_pages.specs.declared.pinned.Pinned.{Pinned}
use Rattle.folder_core.specs.Replay.{Seen}
use Rattle.script_engine.specs.declared.engine.Engine.{Engine}
use Rattle.script_engine.specs.declared.engine.pulling.Paged.{Paged}
use Rattle.script_engine.specs.declared.refusal.Refusal.{Refusal}
use Rattle.script_engine.specs.declared.refusal.Refusal.TheVariants.{NotYet, VectorFull}
use Rattle.script_engine.specs.Engines.{Stands}
use Rattle.script_engine.specs.Named.{HasName}
use Rattle.script_engine.specs.Scene.{Scene, in_world}
use Rattle.script_engine.specs.Pulling.{Ends, IsAsked, Pulls, TakesFiles, TakesPages, with_given}
use Rattle.script_engine.specs.Pulls.{AreCovered, ArePages, AreTreated, FilesTaken, IsPinned, MayFinish, PagesTaken, PullEnds, unknown}
use Rattle.script_engine.specs.Widening.{IsVectorOf}
use Rattle.pinned_pages.specs.Pages.{IsPage}
use Rattle.script_engine.proofs.Asking.{asked_page}
use Rattle.script_engine.proofs.Spoken.{machine_held}

-- what is asked for are pages of the vector that was sent
pub pages_are : (w : World) (p e : ℕ) (page : List Update) → IsAsked w p e page → ArePages (sends_vector w e) e page
pages_are w p e page asked = record { sent = inl refl; each = λ u here. (asked.each u here).0 }

-- the listed files are covered by the server
pub listed_covered : (w : World) (p e : ℕ) (page listed : List Update) (paged : World) → IsAsked w p e page → AreTreated paged p page listed → Grows (sends_vector w e) paged → AreCovered paged e listed
listed_covered w p e page listed paged asked treated grows u here =
    let (there, known) = (asked.each u (treated.from u here)).0.among in (grows.all u there, grows.known e u.gvsn known)

-- all that the vector covers is held or beaten in the end
pub may_finish : (w : World) (p e : ℕ) (vector : List Interval) (page listed : List Update) (paged filed : World) → VersionsAreMade (sends_vector w e) → IsVectorOf (w.at e).known vector → IsAsked w p e page → AreTreated paged p page listed
    → Grows (sends_vector w e) paged → ((u : Update) → In u listed → IsHeldOrBeaten (IsRecordOf filed p) u) → Grows paged filed → MayFinish filed p (w.at e).known vector page
may_finish w p e vector page listed paged filed made is asked treated first held second = record {
  vector = is;
  was_sent = (e, grows.vectors _ (inl refl));
  held = λ u wins. by u (record_stayed (sends_vector w e) filed (w.at e).known (stays (sends_vector w e) filed (w.at e).known (made.known e) grows) u wins) ((w.at p).known u.gvsn) refl;
  pages = page_held;
}
  where
    grows : Grows (sends_vector w e) filed
    grows = grows_trans (sends_vector w e) paged filed first second

    page_held : (u : Update) → In u page → IsHeldOrBeaten (IsRecordOf filed p) u
    page_held u here = elim (treated.each u here) [ inl there ↦ held u there | inr now ↦ held_stays paged filed p u second now ]

    by : (u : Update) → IsRecord w.all (w.at e).known u → (b : Bool) → (w.at p).known u.gvsn ≡ b → IsHeldOrBeaten (IsRecordOf filed p) u
    by u wins true known = held_stays (sends_vector w e) filed p u grows (covered_held w.all (w.at p).known u (wins.among.0, known))
    by u wins false free = page_held u (asked.whole u wins free)

-- ---- the outcomes

pub cut_in_pages : (s : Scene) (p e : ℕ) (page : List Update) (why : Refusal) (new : World) → IsAsked s.world p e page → PagesTaken (sends_vector s.world e) p e page (Err why) new → PullEnds s p e (Err why) (in_world s new)
cut_in_pages s p e page why new asked (listed, taken, pages) = (taken + 0, (sends_vector s.world e, page, listed, taken, 0, Some why, new, refl, asked, pages, (refl, refl), refl))

pub cut_in_files : (s : Scene) (p e : ℕ) (page : List Update) (paged : Paged) (mid : World) (why : Refusal) (new : Scene) → IsAsked s.world p e page → PagesTaken (sends_vector s.world e) p e page (Ok paged) mid
    → FilesTaken (in_world s mid) p e paged.listed.items (Err why) new → PullEnds s p e (Err why) new
cut_in_files s p e page paged mid why new asked (pages, treated, grows) (fetched, files) =
    (paged.taken + fetched, (sends_vector s.world e, page, paged.listed.items, paged.taken, fetched, None, mid, refl, asked, pages, (Some why, new, files, (refl, refl)), refl))

pub all_taken : (s : Scene) (p e : ℕ) (page : List Update) (paged : Paged) (mid : World) (fetched : ℕ) (filed : Scene) (new : World) → IsAsked s.world p e page → PagesTaken (sends_vector s.world e) p e page (Ok paged) mid
    → FilesTaken (in_world s mid) p e paged.listed.items (Ok fetched) filed → Ends filed.world p (s.world.at e).known None new → PullEnds s p e (Ok (paged.taken + fetched)) (in_world filed new)
all_taken s p e page paged mid fetched filed new asked (pages, treated, grows) (files, held, more) ends =
    (sends_vector s.world e, page, paged.listed.items, paged.taken, fetched, None, mid, refl, asked, pages, (None, filed, files, (new, ends, refl)), refl)

pub cut_at_end : (s : Scene) (p e : ℕ) (page : List Update) (paged : Paged) (mid : World) (fetched : ℕ) (filed : Scene) (why : Refusal) (new : World) → IsAsked s.world p e page → PagesTaken (sends_vector s.world e) p e page (Ok paged) mid
    → FilesTaken (in_world s mid) p e paged.listed.items (Ok fetched) filed → Ends filed.world p (s.world.at e).known (Some why) new → PullEnds s p e (Err why) (in_world filed new)
cut_at_end s p e page paged mid fetched filed why new asked (pages, treated, grows) (files, held, more) ends =
    (paged.taken + fetched, (sends_vector s.world e, page, paged.listed.items, paged.taken, fetched, None, mid, refl, asked, pages, (None, filed, files, (new, ends, refl)), refl))

-- ---- a refusal of a pull has no name

abbrev Nameless : Option Refusal → Type 0
Nameless why = (r : Refusal) → why ≡ Some r → HasName r

full : (count : ℕ) (why : Option Refusal) → why ≡ Some (VectorFull count) → Nameless why
full count why e r f = let same : r ≡ VectorFull count = cc in subst HasName (sym same) tt

waits : (usn : ℕ) (why : Option Refusal) → why ≡ Some (NotYet usn) → Nameless why
waits usn why e r f = let same : r ≡ NotYet usn = cc in subst HasName (sym same) tt

none_named : (why : Option Refusal) → why ≡ None → Nameless why
none_named why e r f = absurd (cc)

pages_nameless : (w : World) (p e : ℕ) (us listed : List Update) (taken : ℕ) (why : Option Refusal) (new : World) → TakesPages w p e us listed taken why new → Nameless why
pages_nameless w p e [] listed taken why new (a, b, none, c) = none_named why none
pages_nameless w p e (u ∷ us) listed taken why new (inl (n, t)) = pages_nameless w p e us listed taken why new t
pages_nameless w p e (u ∷ us) listed taken why new (inr (inl (b, f, more, is, t))) = pages_nameless w p e us more taken why new t
pages_nameless w p e (u ∷ us) listed taken why new (inr (inr (inl (f, mid, others, takes, t, is)))) = pages_nameless mid p e us listed others why new t
pages_nameless w p e (u ∷ us) listed taken why new (inr (inr (inr (f, count, much, a, b, c, is)))) = full count why is

files_nameless : (s : Scene) (p e : ℕ) (us : List Update) (taken : ℕ) (why : Option Refusal) (new : Scene) → TakesFiles s p e us taken why new → Nameless why
files_nameless s p e [] taken why new (a, none, b) = none_named why none
files_nameless s p e (u ∷ us) taken why new (inl (n, t)) = files_nameless s p e us taken why new t
files_nameless s p e (u ∷ us) taken why new (inr (inl (b, usn, last, a, is, c))) = waits usn why is
files_nameless s p e (u ∷ us) taken why new (inr (inr (inl (v, given, mid, others, b, file, o, gives, takes, t, is)))) = files_nameless (with_given s p v given mid) p e us others why new t
files_nameless s p e (u ∷ us) taken why new (inr (inr (inr (v, count, b, file, o, much, a, c, is)))) = full count why is

ends_nameless : (w : World) (p : ℕ) (s : Versions) (why : Option Refusal) (new : World) → Ends w p s why new → Nameless why
ends_nameless w p s why new (inl (a, b, none)) = none_named why none
ends_nameless w p s why new (inr (count, a, is, b)) = full count why is

pub pull_nameless : (s : Scene) (p e taken : ℕ) (why : Refusal) (new : Scene) → Pulls s p e taken (Some why) new → HasName why
pull_nameless s p e taken why new (sent, page, listed, at_once, fetched, Some first, mid, step, asked, pages, (is, same), count) = pages_nameless sent p e page listed at_once (Some first) mid pages why (sym is)
pull_nameless s p e taken why new (sent, page, listed, at_once, fetched, None, mid, step, asked, pages, (Some second, last, files, (is, same)), count) =
    files_nameless (in_world s mid) p e listed fetched (Some second) last files why (sym is)
pull_nameless s p e taken why new (sent, page, listed, at_once, fetched, None, mid, step, asked, pages, (None, last, files, (w, ends, is)), count) = ends_nameless last.world p (s.world.at e).known (Some why) w ends why refl

-- ---- of an engine

-- the page that an engine asks for
pub pull_asked : (old mid : Engine) (s : Scene) (at server : ℕ) (pinned : Pinned) (f : Seen) (vector : List Interval) (page : List Update) → Stands old s → Stands mid (in_world s (sends_vector s.world server)) → IsPinned s.world server pinned
    → slice_get mid.folders.items at ≡ Some f → vector ≡ f.machine.book.vector → IsPage (unknown pinned.vector vector) pinned.records page → IsAsked s.world (database_of (at + 1)) server page
pull_asked old mid s at server pinned f vector page stands on is found same asked =
    let m = machine_held mid (in_world s (sends_vector s.world server)) at f on found in
    asked_page s.world (database_of (at + 1)) server f.machine.book.vector pinned.vector pinned.records page
    (record { canonical = m.book.vector.canonical; covering = m.book.vector.covering }) is.vector is.records (subst (λ v. IsPage (unknown pinned.vector v) pinned.records page) same asked)
