-- An agenda stays one of the machine where the step is done that it notes as the last one.
use Rattle.std.proofs.Common.{◌≡◌, ◌≢◌, ◌∙◌, ◌≤◌, ℕ, true, List, Option, Some, None, refl, sym, ap, subst, inl, inr, arith}
use Rattle.std.specs.Prelude.{find, option_map}
use Rattle.std.proofs.lemmas.Bool.Decides.{nat_tests}
use Rattle.frs_base.specs.Options.{In}
use Rattle.frs_base.specs.Versions.{same_uid, uid_lt}
use Rattle.frs_base.specs.declared.sum.Sum.{Sum}
use Rattle.frs_base.specs.declared.version.Uid.{Uid}
use Rattle.win_order.specs.declared.update.Update.{Update}
use Rattle.vol_state.specs.declared.command.VolCmd.{VolCmd}
use Rattle.vol_state.specs.declared.command.VolCmd.TheVariants as vol
use Rattle.vol_state.specs.declared.object.Object.{Object}
use Rattle.vol_state.specs.Effects.{effect}
use Rattle.vol_state.specs.Maps.{Maps, StandsOn, maps_of, write}
use Rattle.vol_state.specs.State.{State, uid_of}
use Rattle.vol_state.specs.Tables.{IsAt}
use Rattle.record_db.specs.declared.command.BookCmd.TheVariants as book
use Rattle.record_db.specs.State.{BookState}
use Rattle.record_db.proofs.Keys.{uid_cases}
use Rattle.name_rules.specs.Next.{IsQuiet, IsThere, place_lt, place_of}
use Rattle.name_rules.specs.Recorded.{held_of, parent_uid}
use Rattle.name_rules.specs.Shown.{AreShown, Among}
use Rattle.name_rules.specs.Steps.{subject_of}
use Rattle.name_rules.specs.Tree.{IsShown, kind_of}
use Rattle.name_rules.specs.declared.step.Next.TheVariants as next
use Rattle.name_rules.specs.declared.step.Step.{Step}
use Rattle.name_rules.specs.declared.step.Step.TheVariants.{Erase, Make, Park, Place, Rewrite, Skip, Unstage}
use Rattle.name_rules.specs.declared.step.Subject.{Subject}
use Rattle.name_rules.proofs.Showing.{shown_name, shown_record}
use Rattle.install_plan.specs.Agenda.{Agenda, IsAgenda, comes_before}
use Rattle.install_plan.specs.Done.{Done, IsDone, Needs}
use Rattle.install_plan.specs.Agenda.{IsLast}
use Rattle.install_plan.specs.Staged.{staged_hash, staged_hashes}
use Rattle.install_plan.proofs.Held.{book_is_distinct}
use Rattle.install_plan.proofs.Steps.{apart}
use Rattle.world_model.proofs.Beside.{ChangesObject, GetsObject, LeavesOthers, LosesObject, erased, got, parked, placed, rewritten}
use Rattle.world_model.specs.Invariant.{PlacesAreATree}
use Rattle.world_model.proofs.Changing.{uid_other}
use Rattle.world_model.proofs.Deciding.{AreOne}
use Rattle.world_model.proofs.Due.{StaysSo}
use Rattle.world_model.proofs.Facts.{none_some, some_is}
use Rattle.folder_core.specs.declared.reply.Reply.{Reply}
use Rattle.folder_core.specs.Books.{Changed}
use Rattle.folder_core.specs.Install.{DoesStep, IsNextOf, IsOperation, IsPlanned}
use Rattle.folder_core.specs.Machine.{Machine}
use Rattle.folder_core.specs.Sound.{IsSound, staged_sums}
use Rattle.folder_core.proofs.Alike.{maps_are, stands_for_maps}
use Rattle.folder_core.proofs.Installing.{hash_is, may_install, needs_of, test_of}
use Rattle.folder_core.proofs.Staging.{sums_with}
use Rattle.folder_core.proofs.Volumes.{same_own}

-- ---- other files

same_file : (x i : Uid) → Subject.Uid x ≡ Subject.Uid i → x ≡ i
same_file x i e = cc

-- a step for one of them stays done
module _ (R : Update → Type 0) (own : ℕ) (m new : Maps) (staged left : Uid → Option Sum) (consumed later : ℕ) (i : Uid) (stays : StaysSo own m new i) (same : left i ≡ staged i) where
  pub still_done : (step : Step) → subject_of step ≡ Subject.Uid i → IsDone R own m staged consumed step → IsDone R own new left later step
  still_done (Park x) e done = λ fid o p (at, is) place.
      let back = stays.back fid o (at, is ∙ same_file x i e) in
      let (u, shown, id, up, name) = done fid o p (back, is) place in
      (u, shown, id, up ∙ sym (stays.parents fid o p back place), name)
  still_done (Erase x) e done = λ fid o u (at, is) r id. done fid o u (stays.back fid o (at, is ∙ same_file x i e), is) r id
  still_done (Make x) e done = λ u shown id. let (fid, o, at, is) = done u shown id in (fid, o, stays.to fid o (at, is ∙ same_file x i e), is)
  still_done (Rewrite x) e done = λ fid o u (at, is) r id present. done fid o u (stays.back fid o (at, is ∙ same_file x i e), is) r id present
  still_done (Place x) e done = λ fid o u (at, is) limbo shown id. done fid o u (stays.back fid o (at, is ∙ same_file x i e), is) limbo shown id
  still_done (Unstage x) e done = λ fid o (at, is) content. done fid o (stays.back fid o (at, is ∙ same_file x i e), is) (sym (ap left (same_file x i e) ∙ (same ∙ ap staged (sym (same_file x i e)))) ∙ content)
  still_done (Skip usn) e done = absurd (cc)

-- ---- its own file

not_itself : (a : Uid) → uid_lt a a ≡ true → ⊥
not_itself a t = grind (arith, nat_tests, t)

-- what holds of each kind of step for a file holds of every step for it
each_own : (P : Step → Type 0) (uid : Uid) → P (Park uid) → P (Erase uid) → P (Make uid) → P (Rewrite uid) → P (Place uid) → P (Unstage uid) → (step : Step) → subject_of step ≡ Subject.Uid uid → P step
each_own P uid a b c d e f (Park x) s = subst (λ y. P (Park y)) (sym (same_file x uid s)) a
each_own P uid a b c d e f (Erase x) s = subst (λ y. P (Erase y)) (sym (same_file x uid s)) b
each_own P uid a b c d e f (Make x) s = subst (λ y. P (Make y)) (sym (same_file x uid s)) c
each_own P uid a b c d e f (Rewrite x) s = subst (λ y. P (Rewrite y)) (sym (same_file x uid s)) d
each_own P uid a b c d e f (Place x) s = subst (λ y. P (Place y)) (sym (same_file x uid s)) e
each_own P uid a b c d e f (Unstage x) s = subst (λ y. P (Unstage y)) (sym (same_file x uid s)) f
each_own P uid a b c d e f (Skip usn) s = absurd (cc)

module _ (R : Update → Type 0) (one : AreOne R) (own : ℕ) (m new : Maps) (staged left : Uid → Option Sum) (consumed : ℕ) (uid : Uid) where
  -- an earlier step for the file is done, as it was
  abbrev Keeps : ℕ × Uid → Step → Type 0
  Keeps place step = place_lt (place_of step) place ≡ true → IsDone R own m staged consumed step → IsDone R own new left consumed step

  pub own_parked : (step : Step) → subject_of step ≡ Subject.Uid uid → Keeps (0, uid) step
  own_parked = each_own (Keeps (0, uid)) uid (λ t. absurd (not_itself uid t)) (λ t. absurd (cc)) (λ t. absurd (cc)) (λ t. absurd (cc)) (λ t. absurd (cc)) (λ t. absurd (cc))

  pub own_erased : LosesObject own m new uid → (step : Step) → subject_of step ≡ Subject.Uid uid → Keeps (1, uid) step
  own_erased lost = each_own (Keeps (1, uid)) uid (λ t done fid o p (at, is) place. absurd (lost.gone fid o at is))
      (λ t. absurd (not_itself uid t)) (λ t. absurd (cc)) (λ t. absurd (cc)) (λ t. absurd (cc)) (λ t. absurd (cc))

  -- the record of a shown file is present
  shown_present : (u : Update) → IsShown R u → u.uid ≡ uid → (v : Update) → R v → v.uid ≡ uid → v.present ≡ true
  shown_present u shown id v r also = ap (λ x. x.present) (one v u r (shown_record R u shown) (also ∙ sym id)) ∙ (shown_name R u shown).present

  pub own_made : (f : ℕ) (y : Object) (u : Update) → GetsObject own m new uid f y → y.place ≡ None → IsShown R u → u.uid ≡ uid → (step : Step) → subject_of step ≡ Subject.Uid uid → Keeps (2, uid) step
  own_made f y u gets limbo shown id = each_own (Keeps (2, uid)) uid
      (λ t done fid o p of place. absurd (none_some p (sym limbo ∙ (ap (λ x. x.place) (gets.there.only fid o of).1 ∙ place))))
      (λ t done fid o v of r also. shown_present u shown id v r also)
      (λ t. absurd (not_itself uid t)) (λ t. absurd (cc)) (λ t. absurd (cc)) (λ t. absurd (cc))

  module _ (f : ℕ) (o y : Object) (is : ChangesObject own m new uid f o y) where
    still_erased : IsDone R own m staged consumed (Erase uid) → IsDone R own new left consumed (Erase uid)
    still_erased done = λ fid z u of r id. done f o u (is.before.there, is.before.is) r id

    still_made : IsDone R own new left consumed (Make uid)
    still_made = λ u shown id. (f, y, is.after.there, is.after.is)

    pub own_rewritten : y.place ≡ o.place → (step : Step) → subject_of step ≡ Subject.Uid uid → Keeps (3, uid) step
    own_rewritten kept = each_own (Keeps (3, uid)) uid
        (λ t done fid z p of place.
        let (u, shown, id, up, name) = done f o p (is.before.there, is.before.is) (sym kept ∙ (ap (λ x. x.place) (is.after.only fid z of).1 ∙ place)) in
        (u, shown, id ∙ (is.before.is ∙ sym of.1), up ∙ sym (is.parents p.0), name))
        (λ t. still_erased) (λ t done. still_made) (λ t. absurd (not_itself uid t)) (λ t. absurd (cc)) (λ t. absurd (cc))

    pub own_placed : (parent : ℕ) (name : List ℕ) (u : Update) → y.place ≡ Some (parent, name) → y.sum ≡ o.sum → IsShown R u → u.uid ≡ uid → u.parent ≡ parent_uid own m parent → u.name ≡ name
        → (step : Step) → subject_of step ≡ Subject.Uid uid → Keeps (4, uid) step
    own_placed parent name u there sum shown id up named = each_own (Keeps (4, uid)) uid
        (λ t done fid z p of place.
        let here : (parent, name) ≡ p = some_is (parent, name) p (sym there ∙ (ap (λ x. x.place) (is.after.only fid z of).1 ∙ place)) in
        (u, shown, id ∙ sym of.1, up ∙ (sym (is.parents parent) ∙ ap (λ q. parent_uid own new q.0) here), named ∙ ap (λ q. q.1) here))
        (λ t. still_erased) (λ t done. still_made)
        (λ t done fid z v of r also present. ap (λ x. x.sum) (sym (is.after.only fid z of).1) ∙ (sum ∙ done f o v (is.before.there, is.before.is) r also present))
        (λ t. absurd (not_itself uid t)) (λ t. absurd (cc))

-- where what is staged goes, nothing else is touched
own_unstaged : (R : Update → Type 0) (own : ℕ) (m : Maps) (staged left : Uid → Option Sum) (consumed later : ℕ) (uid : Uid) (step : Step) → subject_of step ≡ Subject.Uid uid → place_lt (place_of step) (5, uid) ≡ true
    → IsDone R own m staged consumed step → IsDone R own m left later step
own_unstaged R own m staged left consumed later uid =
    each_own (λ step. place_lt (place_of step) (5, uid) ≡ true → IsDone R own m staged consumed step → IsDone R own m left later step) uid
    (λ t done. done) (λ t done. done) (λ t done. done) (λ t done. done) (λ t done. done) (λ t. absurd (not_itself uid t))

-- ---- an agenda

-- the step that an agenda notes is for a file that it lists
listed : (v : State) (b : BookState) (a : Agenda) (step : Step) (uid : Uid) → IsAgenda v b a → subject_of step ≡ Subject.Uid uid → Needs v b step → In uid a.uids
listed v b a step uid is of needed = elim (is.others step uid of) [ inl i ↦ i | inr done ↦ absurd (apart v b step done needed) ]

-- it is one of the new volume and book, where other files keep what is done for them, and the step's own file what comes before it
after_step : (v w : State) (b c : BookState) (a : Agenda) (step : Step) (uid : Uid) → IsAgenda v b a → a.last ≡ Some step → subject_of step ≡ Subject.Uid uid → Needs v b step
    → c.records ≡ b.records → IsQuiet c.consumed (maps_of w)
    → ((i : Uid) → i ≢ uid → (other : Step) → subject_of other ≡ Subject.Uid i → Done v b other → Done w c other)
    → ((other : Step) → subject_of other ≡ Subject.Uid uid → place_lt (place_of other) (place_of step) ≡ true → Done v b other → Done w c other)
    → IsAgenda w c a
after_step v w b c a step uid is last of needed records quiet beside own = record {
  shown = subst (λ l. AreShown l a.shown) (sym records) is.shown;
  ordered = is.ordered;
  quiet = quiet;
  others = λ other i for. elim (uid_cases i uid) [
    | inl same ↦ inl (subst (λ x. In x a.uids) (sym same) (listed v b a step uid is of needed))
    | inr n ↦ elim (is.others other i for) [ inl j ↦ inl j | inr done ↦ inr (beside i n other for done) ]
  ];
  passed = λ other i for before. elim (uid_cases i uid) [
    | inl same ↦ own other (for ∙ ap Subject.Uid same) (subst (λ l. comes_before other l ≡ true) last before) (is.passed other i for before)
    | inr n ↦ beside i n other for (is.passed other i for before)
  ];
}

-- nothing was done
nothing_moved : (own : ℕ) (m : Maps) (i : Uid) → StaysSo own m m i
nothing_moved own m i = record { to = λ g z h. h.0; back = λ g z h. h.0; parents = λ g o p at place. refl }

module _ (on : StandsOn) (m : Machine) (h : IsSound m) (a : Agenda) (is : IsAgenda m.volume m.book a) where
  records_one : AreOne (Among m.book.records)
  records_one u v r q e = (book_is_distinct m.book h.order.book).files u v r q e

  tree : PlacesAreATree m.volume.own (maps_of m.volume)
  tree = subst (λ own. PlacesAreATree own (maps_of m.volume)) (sym h.order.own) h.agrees.member.places

  -- a UID that the book's database gives is the one that the volume's gives
  whose : (o : Object) (uid : Uid) → uid_of m.book.own o ≡ uid → uid_of m.volume.own o ≡ uid
  whose o uid e = ap (λ own. uid_of own o) h.order.own ∙ e

  -- after an operation of the installer
  operated : (step : Step) (uid : Uid) (op : VolCmd) → subject_of step ≡ Subject.Uid uid → a.last ≡ Some step → IsNextOf m (next.Do step) → IsOperation m step op
      → LeavesOthers m.volume.own (maps_of m.volume) (write m.volume.own op (maps_of m.volume)) uid
      → ((other : Step) → subject_of other ≡ Subject.Uid uid → place_lt (place_of other) (place_of step) ≡ true
      → IsDone (Among m.book.records) m.volume.own (maps_of m.volume) (staged_hashes m.book) m.book.consumed other
      → IsDone (Among m.book.records) m.volume.own (write m.volume.own op (maps_of m.volume)) (staged_hashes m.book) m.book.consumed other)
      → IsAgenda (effect op m.volume) m.book a
  operated step uid op of last n operation leaves own =
      after_step m.volume (effect op m.volume) m.book m.book a step uid is last of needed refl (subst (IsQuiet m.book.consumed) maps (leaves.quiet m.book.consumed is.quiet))
      (λ i other_file other for done.
      moved other (still_done (Among m.book.records) m.volume.own (maps_of m.volume) (write m.volume.own op (maps_of m.volume)) (staged_hashes m.book) (staged_hashes m.book) m.book.consumed m.book.consumed i
      (leaves.beside i other_file) refl other for done))
      (λ other for before done. moved other (own other for before done))
    where
      needed : Needs m.volume m.book step
      needed = needs_of m h step n

      maps : write m.volume.own op (maps_of m.volume) ≡ maps_of (effect op m.volume)
      maps = maps_are (effect op m.volume) (write m.volume.own op (maps_of m.volume)) (on op m.volume (maps_of m.volume) h.order.volume h.order.free (test_of m h step op n operation) (stands_for_maps m.volume))

      moved : (other : Step) → IsDone (Among m.book.records) m.volume.own (write m.volume.own op (maps_of m.volume)) (staged_hashes m.book) m.book.consumed other → Done (effect op m.volume) m.book other
      moved other done = subst (λ own. IsDone (Among m.book.records) own (maps_of (effect op m.volume)) (staged_hashes m.book) m.book.consumed other) (sym (same_own op m.volume))
          (subst (λ x. IsDone (Among m.book.records) m.volume.own x (staged_hashes m.book) m.book.consumed other) maps done)

  installed : (step : Step) (op : VolCmd) → a.last ≡ Some step → IsNextOf m (next.Do step) → IsOperation m step op → IsAgenda (effect op m.volume) m.book a
  installed (Park uid) op last n operation = by operation.of_step
    where
      by : (fid : ℕ) × (o : Object) × IsAt (maps_of m.volume) fid o × (uid_of m.book.own o ≡ uid) × (op ≡ vol.Park fid) → IsAgenda (effect op m.volume) m.book a
      by (f, o, at, id, e) =
          let changes = parked m.volume.own (maps_of m.volume) tree uid f o at (whose o uid id) in
          subst (λ x. IsAgenda (effect x m.volume) m.book a) (sym e)
          (operated (Park uid) uid (vol.Park f) refl last n (subst (IsOperation m (Park uid)) e operation) changes.others
          (own_parked (Among m.book.records) records_one m.volume.own (maps_of m.volume) (write m.volume.own (vol.Park f) (maps_of m.volume)) (staged_hashes m.book) (staged_hashes m.book) m.book.consumed uid))
  installed (Erase uid) op last n operation = by operation.of_step
    where
      by : (fid : ℕ) × (o : Object) × IsAt (maps_of m.volume) fid o × (uid_of m.book.own o ≡ uid) × (op ≡ vol.Erase fid) → IsAgenda (effect op m.volume) m.book a
      by (f, o, at, id, e) =
          let now = subst (IsOperation m (Erase uid)) e operation in
          let (z, there, limbo, bare) = (may_install m h (Erase uid) (vol.Erase f) n now).replica in
          let lost = erased m.volume.own (maps_of m.volume) tree uid f o at (whose o uid id) bare in
          subst (λ x. IsAgenda (effect x m.volume) m.book a) (sym e)
          (operated (Erase uid) uid (vol.Erase f) refl last n now lost.others
          (own_erased (Among m.book.records) records_one m.volume.own (maps_of m.volume) (write m.volume.own (vol.Erase f) (maps_of m.volume)) (staged_hashes m.book) (staged_hashes m.book) m.book.consumed uid lost))
  installed (Make uid) op last n operation = by operation.of_step (needs_of m h (Make uid) n)
    where
      by : (u : Update) × (bytes : List ℕ) × In u m.book.records × (u.uid ≡ uid) × (op ≡ vol.Make uid (kind_of u) bytes) → Needs m.volume m.book (Make uid) → IsAgenda (effect op m.volume) m.book a
      by (u, bytes, r, id, e) (w, shown, same, none) =
          let gets = got m.volume.own (maps_of m.volume) tree uid m.book.consumed (kind_of u) bytes h.agrees.member.numbers none in
          subst (λ x. IsAgenda (effect x m.volume) m.book a) (sym e)
          (operated (Make uid) uid (vol.Make uid (kind_of u) bytes) refl last n (subst (IsOperation m (Make uid)) e operation) gets.others
          (own_made (Among m.book.records) records_one m.volume.own (maps_of m.volume) (write m.volume.own (vol.Make uid (kind_of u) bytes) (maps_of m.volume)) (staged_hashes m.book) (staged_hashes m.book) m.book.consumed uid
          _ _ w gets refl shown same))
  installed (Rewrite uid) op last n operation = by operation.of_step
    where
      by : (fid : ℕ) × (o : Object) × (bytes : List ℕ) × IsAt (maps_of m.volume) fid o × (uid_of m.book.own o ≡ uid) × (op ≡ vol.Rewrite fid bytes) → IsAgenda (effect op m.volume) m.book a
      by (f, o, bytes, at, id, e) =
          let changes = rewritten m.volume.own (maps_of m.volume) tree uid f o bytes at (whose o uid id) in
          subst (λ x. IsAgenda (effect x m.volume) m.book a) (sym e)
          (operated (Rewrite uid) uid (vol.Rewrite f bytes) refl last n (subst (IsOperation m (Rewrite uid)) e operation) changes.others
          (own_rewritten (Among m.book.records) records_one m.volume.own (maps_of m.volume) (write m.volume.own (vol.Rewrite f bytes) (maps_of m.volume)) (staged_hashes m.book) (staged_hashes m.book) m.book.consumed uid
          f o _ changes refl))
  installed (Place uid) op last n operation = by operation.of_step (needs_of m h (Place uid) n)
    where
      by : (fid : ℕ) × (o : Object) × (u : Update) × (parent : ℕ) × IsAt (maps_of m.volume) fid o × (uid_of m.book.own o ≡ uid) × In u m.book.records × (u.uid ≡ uid)
          × IsThere (maps_of m.volume) parent × (u.parent ≡ parent_uid m.book.own (maps_of m.volume) parent) × (op ≡ vol.Place fid parent u.name) → Needs m.volume m.book (Place uid) → IsAgenda (effect op m.volume) m.book a
      by (f, o, u, parent, at, id, r, of, there, up, e) (g, z, w, found, its, limbo, shown, same) =
          let changes = placed m.volume.own (maps_of m.volume) tree uid f o parent u.name at (whose o uid id) in
          let one = records_one w u (shown_record (Among m.book.records) w shown) r (same ∙ sym of) in
          subst (λ x. IsAgenda (effect x m.volume) m.book a) (sym e)
          (operated (Place uid) uid (vol.Place f parent u.name) refl last n (subst (IsOperation m (Place uid)) e operation) changes.others
          (own_placed (Among m.book.records) records_one m.volume.own (maps_of m.volume) (write m.volume.own (vol.Place f parent u.name) (maps_of m.volume)) (staged_hashes m.book) (staged_hashes m.book) m.book.consumed uid
          f o _ changes parent u.name u refl refl (subst (IsShown (Among m.book.records)) one shown) of (up ∙ ap (λ own. parent_uid own (maps_of m.volume) parent) (sym h.order.own)) refl))
  installed (Unstage uid) op last n operation = absurd operation.of_step
  installed (Skip usn) op last n operation = absurd operation.of_step

  -- ---- the book

  -- each step for a file is done by a book of the same records, as far as the same is staged of it
  same_book : (c : BookState) (i : Uid) (other : Step) → c.records ≡ m.book.records → staged_hashes c i ≡ staged_hashes m.book i → subject_of other ≡ Subject.Uid i → Done m.volume m.book other → Done m.volume c other
  same_book c i other records same for done =
      subst (λ l. IsDone (Among l) m.volume.own (maps_of m.volume) (staged_hashes c) c.consumed other) (sym records)
      (still_done (Among m.book.records) m.volume.own (maps_of m.volume) (maps_of m.volume) (staged_hashes m.book) (staged_hashes c) m.book.consumed c.consumed i (nothing_moved m.volume.own (maps_of m.volume) i) same other for done)

  unstaged : (new : Machine) (uid : Uid) → IsSound new → a.last ≡ Some (Unstage uid) → IsNextOf m (next.Do (Unstage uid)) → Changed (book.Unstage uid) m new → IsAgenda m.volume new.book a
  unstaged new uid sound last n c =
      after_step m.volume m.volume m.book new.book a (Unstage uid) uid is last refl (needs_of m h (Unstage uid) n) c.book.records (subst (λ k. IsQuiet k (maps_of m.volume)) (sym c.book.consumed) is.quiet)
      (λ i other_file other for done. same_book new.book i other c.book.records (hashes i other_file) for done)
      (λ other for before done. subst (λ l. IsDone (Among l) m.volume.own (maps_of m.volume) (staged_hashes new.book) new.book.consumed other) (sym c.book.records)
      (own_unstaged (Among m.book.records) m.volume.own (maps_of m.volume) (staged_hashes m.book) (staged_hashes new.book) m.book.consumed new.book.consumed uid other for before done))
    where
      hashes : (i : Uid) → i ≢ uid → staged_hashes new.book i ≡ staged_hashes m.book i
      hashes i other_file =
          hash_is new sound i ∙ (ap (λ f. f i) (sums_with m.book new.book uid None c.book.staged) ∙ (uid_other (staged_sums m.book) uid None i other_file ∙ sym (hash_is m h i)))

  skipped : (new : Machine) (usn : ℕ) → a.last ≡ Some (Skip usn) → IsNextOf m (next.Do (Skip usn)) → Changed (book.RecordLocal usn None) m new → IsAgenda m.volume new.book a
  skipped new usn last n c = record {
    shown = subst (λ l. AreShown l a.shown) (sym c.book.records) is.shown;
    ordered = is.ordered;
    quiet = λ k r low at. is.quiet k r (before k low) at;
    others = λ other i for. elim (is.others other i for) [ inl j ↦ inl j | inr done ↦ inr (same_book new.book i other c.book.records (hashes i) for done) ];
    passed = λ other i for before. same_book new.book i other c.book.records (hashes i) for (is.passed other i for before);
  }
    where
      hashes : (i : Uid) → staged_hashes new.book i ≡ staged_hashes m.book i
      hashes i = λ k. staged_hash (option_map (λ s. s.form) (find (λ s. same_uid s.uid i) (c.book.staged k))) (held_of (c.book.records k) i)

      before : (k : ℕ) → new.book.consumed ≤ k → m.book.consumed ≤ k
      before k low = let (r, this, at) = (n.1).candidate in omega (arith, low, c.book.consumed, this)

  -- ---- each step

  pub stays_planned : (new : Machine) (step : Step) (reply : Reply) → IsSound new → a.last ≡ Some step → IsNextOf m (next.Do step) → DoesStep step m reply new → IsAgenda new.volume new.book a
  stays_planned new (Unstage uid) reply sound last n (told, c) = subst (λ v. IsAgenda v new.book a) (sym c.volume) (unstaged new uid sound last n c)
  stays_planned new (Skip usn) reply sound last n (inl (told, c)) = subst (λ v. IsAgenda v new.book a) (sym c.volume) (skipped new usn last n c)
  stays_planned new (Skip usn) reply sound last n (inr (count, (full, (told, same)))) = subst (λ x. IsAgenda x.volume x.book a) (sym same) is
  stays_planned new (Park uid) reply sound last n (op, operation, told, e) = subst (λ x. IsAgenda x.volume x.book a) (sym e) (installed (Park uid) op last n operation)
  stays_planned new (Erase uid) reply sound last n (op, operation, told, e) = subst (λ x. IsAgenda x.volume x.book a) (sym e) (installed (Erase uid) op last n operation)
  stays_planned new (Make uid) reply sound last n (op, operation, told, e) = subst (λ x. IsAgenda x.volume x.book a) (sym e) (installed (Make uid) op last n operation)
  stays_planned new (Rewrite uid) reply sound last n (op, operation, told, e) = subst (λ x. IsAgenda x.volume x.book a) (sym e) (installed (Rewrite uid) op last n operation)
  stays_planned new (Place uid) reply sound last n (op, operation, told, e) = subst (λ x. IsAgenda x.volume x.book a) (sym e) (installed (Place uid) op last n operation)

-- ---- what is kept, if anything

-- of what is noted as the last step
pub planned_on : StandsOn → (m new : Machine) (step : Step) (reply : Reply) (kept : Option Agenda) → IsSound m → IsSound new → IsNextOf m (next.Do step) → DoesStep step m reply new → IsLast step kept → IsPlanned m kept → IsPlanned new kept
planned_on on m new step reply None h sound n does last planned = absurd last
planned_on on m new step reply (Some a) h sound n does last planned = stays_planned on m h a planned new step reply sound last n does
