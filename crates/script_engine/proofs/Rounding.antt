-- A pull that isn't refused is a whole round.
use Rattle.std.proofs.Common.{◌≡◌, ◌&&◌, not, ℕ, suc, Bool, true, false, List, [], ◌∷◌, ◌++◌, refl, sym, ap, ◌∙◌, subst, inl, inr, Option, Some, None}
use Rattle.win_order.specs.declared.update.Update.{Update}
use Rattle.record_db.specs.Records.{Versions}
use Rattle.world_model.specs.World.{World}
use Rattle.world_model.specs.Events.{sends_vector}
use Rattle.world_model.specs.Rounds.{GoesOnBy, IsPage, IsRound, Round, TreatsAll}
use Rattle.world_model.proofs.Facts.{none_some, true_false}
use Rattle.script_engine.specs.declared.refusal.Refusal.{Refusal}
use Rattle.script_engine.specs.Laws.{PagesAreAsked, PullsAreRounds, begun_round}
use Rattle.script_engine.specs.Pulling.{Ends, GoesOn, IsAsked, Rest, TakesFiles, TakesPages, with_given}
use Rattle.script_engine.specs.Scene.{Scene, in_world}

-- ---- pages

append_nothing : (us : List Update) → us ++ [] ≡ us
append_nothing [] = refl
append_nothing (u ∷ us) = ap (λ z. u ∷ z) (append_nothing us)

append_one : (us : List Update) (u : Update) (more : List Update) → (us ++ u ∷ []) ++ more ≡ us ++ u ∷ more
append_one [] u more = refl
append_one (v ∷ us) u more = ap (λ z. v ∷ z) (append_one us u more)

-- what a pull takes of its pages a round treats so
treats_all : (w : World) (puller server : ℕ) (us listed : List Update) (taken : ℕ) (new : World) → TakesPages w puller server us listed taken None new
    → (before : List Update) → TreatsAll w puller server us before new (before ++ listed)
treats_all w puller server [] listed taken new (l, t, y, is) before = (is, ap (λ z. before ++ z) l ∙ append_nothing before)
treats_all w puller server (u ∷ us) listed taken new (inl (n, rest)) before =
    (w, before, inl (n, refl, refl), treats_all w puller server us listed taken new rest before)
treats_all w puller server (u ∷ us) listed taken new (inr (inl (wanted, file, more, l, rest))) before = (
  w,
  before ++ u ∷ [],
  inr (inl (wanted, file, refl, refl)),
  subst (TreatsAll w puller server us (before ++ u ∷ []) new) (append_one before u more ∙ ap (λ z. before ++ z) (sym l))
      (treats_all w puller server us more taken new rest (before ++ u ∷ [])),
)
treats_all w puller server (u ∷ us) listed taken new (inr (inr (inl (directory, mid, others, (fits, between, sent, adopted), rest, t)))) before =
    (mid, before, inr (inr (directory, between, sent, adopted, refl)), treats_all mid puller server us listed others new rest before)
treats_all w puller server (u ∷ us) listed taken new (inr (inr (inr (directory, count, much, is, l, t, why)))) before = absurd (none_some _ why)

-- ---- files

-- a round of which nothing is asked for any more
abbrev asking_none : Versions → List Update → Round
asking_none versions us = record { versions = versions; rest = λ g. false; listed = us }

-- the files that a pull takes a round fetches
fetch_all : (versions : Versions) (s : Scene) (puller server : ℕ) (us : List Update) (taken : ℕ) (new : Scene) → TakesFiles s puller server us taken None new
    → (acts : ℕ) × GoesOnBy acts s.world puller server (asking_none versions us) new.world (asking_none versions [])
fetch_all versions s puller server [] taken new (t, y, is) = (0, (ap (λ (z : Scene). z.world) is, refl))
fetch_all versions s puller server (u ∷ us) taken new (inl (n, rest)) =
    let (acts, more) = fetch_all versions s puller server us taken new rest in
    (suc acts, (s.world, asking_none versions us, inr (u, us, refl, refl, inl (n, refl)), more))
fetch_all versions s puller server (u ∷ us) taken new (inr (inl (wanted, usn, waits, t, why, is))) = absurd (none_some _ why)
fetch_all versions s puller server (u ∷ us) taken new (inr (inr (inl (v, given, mid, others, wanted, same, of, gives, (fits, between, sent, adopted), rest, t)))) =
    let (acts, more) = fetch_all versions (with_given s puller v given mid) puller server us others new rest in
    (suc acts, (mid, asking_none versions us, inr (u, us, refl, refl, inr (v, between, of.0, same, sent, adopted)), more))
fetch_all versions s puller server (u ∷ us) taken new (inr (inr (inr (v, count, wanted, same, of, much, is, t, why)))) = absurd (none_some _ why)

-- ---- the whole

one_not_other : (a b : Bool) → a ≡ true → b ≡ false → (a && not b) ≡ true
one_not_other true false e f = refl
one_not_other true true e f = absurd (true_false true refl f)
one_not_other false b e f = absurd (true_false false e refl)

other_not : (a b : Bool) → (a && not b) ≡ true → b ≡ false
other_not a false e = refl
other_not true true e = absurd (true_false false e refl)
other_not false true e = absurd (true_false false e refl)

-- a page that leaves nothing to be asked for
pub pages_are_asked : PagesAreAsked
pages_are_asked w puller server page order = (to, back)
  where
    known : Versions
    known = (w.at server).known

    covered : Versions
    covered = (w.at puller).known

    to : IsPage (sends_vector w server) (begun_round w puller server) page (λ g. false) → IsAsked w puller server page
    to p = record {
      ordered = order;
      each = λ u i. let (r, t) = p.winners u i in (r, other_not (known u.gvsn) (covered u.gvsn) t);
      whole = λ u r n. elim (p.first u r (one_not_other (known u.gvsn) (covered u.gvsn) r.among.1 n)) [ inl i ↦ i | inr t ↦ absurd (true_false false t refl) ];
    }

    back : IsAsked w puller server page → IsPage (sends_vector w server) (begun_round w puller server) page (λ g. false)
    back asked = record {
      winners = λ u i. let (r, n) = asked.each u i in (r, one_not_other (known u.gvsn) (covered u.gvsn) r.among.1 n);
      first = λ u r t. inl (asked.whole u r (other_not (known u.gvsn) (covered u.gvsn) t));
      fewer = λ g t. absurd (true_false false t refl);
    }

pub pulls_are_rounds : PullsAreRounds
pulls_are_rounds s puller server taken new (sent, page, listed, at_once, fetched, first, mid, send, asked, pages, on, t) = paged first pages on
  where
    w : World
    w = s.world

    known : Versions
    known = (w.at server).known

    Ending : Scene → Option Refusal → Scene → Type 0
    Ending filed why new = (z : World) × Ends filed.world puller known why z × (new ≡ in_world filed z)

    is_page : IsPage sent (begun_round w puller server) page (λ g. false)
    is_page = subst (λ z. IsPage z (begun_round w puller server) page (λ g. false)) (sym send) ((pages_are_asked w puller server page asked.ordered).1 asked)

    filed : (second : Option Refusal) (last : Scene) → TakesPages sent puller server page listed at_once None mid → TakesFiles (in_world s mid) puller server listed fetched second last
        → GoesOn second last Ending None new → IsRound w puller server new.world
    filed (Some refused) last pages files (why, is) = absurd (none_some refused why)
    filed None last pages files (z, inr (count, exceeds, why, same), is) = absurd (none_some _ why)
    filed None last pages files (z, inl (fits, step, why), is) =
        let (acts, fetches) = fetch_all known (in_world s mid) puller server listed fetched last files in
        subst (λ (x : Scene). IsRound w puller server x.world) (sym is) (
          sent,
          begun_round w puller server,
          suc acts,
          last.world,
          asking_none known [],
          (send, refl),
          (mid, asking_none known listed, inl (page, is_page, treats_all sent puller server page listed at_once mid pages [], refl), fetches),
          ((λ u r. refl), refl),
          step,
        )

    paged : (first : Option Refusal) → TakesPages sent puller server page listed at_once first mid → GoesOn first (in_world s mid) (Rest puller server known listed fetched) None new → IsRound w puller server new.world
    paged (Some refused) pages (why, is) = absurd (none_some refused why)
    paged None pages (second, last, files, ends) = filed second last pages files ends
