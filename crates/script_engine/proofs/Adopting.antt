-- An update that is adopted at a member's machine is adopted at the member.
use Rattle.std.proofs.Common.{◌≡◌, ◌≢◌, ◌<◌, ◌≤◌, ◌-◌, ◌^◌, ◌⊎◌, ℕ, Bool, true, false, not, cond, eqb, List, [], ◌∷◌, length, refl, sym, ap, ◌∙◌, subst, arith, inl, inr, MatchOption, Option, Some, None, Result, Ok}
use Rattle.std.specs.Prelude.{MatchBool, MatchResult, bit_and, find, if◌then◌else◌, option_map, unwrap_or}
use Rattle.std.proofs.lemmas.Bool.Decides.{nat_tests}
use Rattle.frs_base.specs.Identifiers.{content_set}
use Rattle.frs_base.specs.Options.{In, kept_if}
use Rattle.frs_base.specs.Versions.{same_uid}
use Rattle.frs_base.specs.declared.kind.Kind.{Kind}
use Rattle.frs_base.specs.declared.kind.Kind.TheVariants.{Directory, File}
use Rattle.marshal_form.specs.Local.{IsLocalForm, local}
use Rattle.marshal_form.specs.Spelling.{spelling}
use Rattle.marshal_form.proofs.Locals.{local_forms_have_no_bad_place}
use Rattle.version_vector.specs.Versions.{covers}
use Rattle.win_order.specs.Order.{Beats, key_lt, key_of}
use Rattle.win_order.specs.Refusals.{has_no_version, is_compressed, is_of_root, is_skewed, unfit_of}
use Rattle.win_order.specs.declared.unfit.Unfit.TheVariants.{Compressed, Root, Skewed, Version, WrongSet}
use Rattle.win_order.specs.declared.update.Update.{Update}
use Rattle.vol_state.specs.declared.object.Object.{Object}
use Rattle.vol_state.specs.Conditions.{root_uid}
use Rattle.vol_state.specs.Maps.{Stands}
use Rattle.vol_state.specs.Places.{object_at}
use Rattle.vol_state.specs.State.{object_of, uid_of}
use Rattle.vol_state.proofs.Finding.{in_at}
use Rattle.record_db.specs.declared.command.BookCmd.TheVariants as cmd
use Rattle.record_db.specs.Records.{Covered, plus}
use Rattle.record_db.specs.Staged.{with_uid}
use Rattle.record_db.specs.Standing.{StandsFor}
use Rattle.record_db.proofs.Best.{one_held}
use Rattle.record_db.proofs.Keys.{same_uid_is}
use Rattle.record_db.proofs.Lists.{find_in, found_held}
use Rattle.record_db.proofs.Standing.{adopts_on}
use Rattle.name_rules.specs.Recorded.{held_of}
use Rattle.name_rules.specs.Tree.{is_file, kind_of}
use Rattle.world_model.specs.World.{World, with_member}
use Rattle.world_model.specs.Events.{Step, Adopt, WasSent, adopted_by}
use Rattle.world_model.specs.Laws.{IsFitToAdopt}
use Rattle.world_model.specs.Rounds.{IsWanted}
use Rattle.world_model.proofs.Changing.{at_same}
use Rattle.world_model.proofs.Facts.{none_some}
use Rattle.world_model.proofs.Flight.{adoptions_fit}
use Rattle.folder_core.specs.declared.refusal.Refusal.{Refusal}
use Rattle.folder_core.specs.declared.refusal.Refusal.TheVariants.{Beaten, Doubled, KindDiffers, OwnAhead, Unfit, VectorFull}
use Rattle.folder_core.specs.declared.reply.Reply.{Reply}
use Rattle.folder_core.specs.declared.reply.Reply.TheVariants.{Adopted, Refused}
use Rattle.folder_core.specs.Machine.{Machine, Refuses, first_of, is_ahead}
use Rattle.folder_core.specs.Notes.{form_sum}
use Rattle.folder_core.specs.Adopt.{AnswersAdopt, AnswersForm, ChecksForm, adopt_refusal, beaten, doubled, kind_at, kind_differs, own_ahead, same_kind, unfit}
use Rattle.folder_core.specs.Books.{Changed, Takes}
use Rattle.folder_core.specs.Sound.{IsSound as IsSoundMachine}
use Rattle.script_engine.specs.Pulls.{HasForm, IsFormOfGiven}
use Rattle.script_engine.specs.Scene.{Contents, with_contents}
use Rattle.script_engine.specs.Sound.{IsSoundWorld}
use Rattle.script_engine.specs.Standing.{HoldsContents, MachineStands}
use Rattle.script_engine.specs.Widening.{Exceeds, Fits}
use Rattle.script_engine.proofs.Advancing.{Goes, beside_same}
use Rattle.script_engine.proofs.Journals.{recorded_kept}
use Rattle.script_engine.proofs.Passing.{passes_adopt}
use Rattle.script_engine.proofs.Staging.{staged_with}
use Rattle.script_engine.proofs.Vectors.{vector_plus}
use Rattle.script_engine.proofs.Widths.{covered_is, exceeds_by, fits_by}

-- the update is adopted
pub record Adopts (w : World) (d : ℕ) (u : Update) (form : Option (List ℕ)) (m : Machine) (reply : Reply) (new : Machine) : Type 0 where
  pub fits : Fits (plus (w.at d).known u.gvsn)
  pub after : World
  pub step : Step w d (Adopt u) after
  pub reply_is : reply ≡ Adopted
  pub goes : Goes w d m new after
  pub holds : (contents : Contents) (given : Option (List ℕ)) → IsFormOfGiven given form → HoldsContents (contents d) m → HoldsContents (with_contents contents d u.uid given d) new
  pub volume : new.volume ≡ m.volume

-- its version would make too many intervals
pub record IsTooWide (w : World) (d : ℕ) (u : Update) (m : Machine) (reply : Reply) (new : Machine) : Type 0 where
  pub count : ℕ
  pub exceeds : Exceeds (plus (w.at d).known u.gvsn) count
  pub reply_is : reply ≡ Refused (VectorFull count)
  pub same : new ≡ m

-- ---- it is fit

-- an update that was recorded, in a world in which few were, with a version below the highest number
pub record IsOurs (w : World) (u : Update) : Type 0 where
  pub here : In u w.all
  pub set : u.set ≡ content_set
  pub flags : u.flags ≡ 0
  pub few : length w.all < 2 ^ 60
  pub low : u.gvsn.version < 2 ^ 64 - 1

not_root : (u : Update) → u.set ≡ content_set → u.uid ≢ root_uid → is_of_root u ≡ false
not_root u e n = by (is_of_root u) refl
  where
    by : (t : Bool) → is_of_root u ≡ t → t ≡ false
    by false k = refl
    by true k =
        let db : u.uid.db ≡ content_set = grind (arith, nat_tests) in
        let version : u.uid.version ≡ 1 = grind (arith, nat_tests) in
        absurd (n (λ i. record { db = db i; version = version i }))

is_fit : (w : World) (u : Update) (set : ℕ) → IsSoundWorld w → IsOurs w u → set ≡ content_set → unfit_of u set ≡ None
is_fit w u set sound ours e =
    let same : eqb u.set set ≡ true = let s = ours.set in grind (arith, nat_tests) in
    let plain : is_compressed u ≡ false = ap (λ f. eqb (bit_and f 1) 1) ours.flags in
    let fence = sound.invariant.clocks.fences u ours.here in
    let clock = sound.invariant.clocks.clocks u ours.here in
    let few = ours.few in
    let early : is_skewed u ≡ false = let small : u.clock < 2 ^ 62 = omega (arith, clock, few) in grind (arith, nat_tests) in
    let begun = (sound.invariant.versions.recorded u ours.here).0 in
    let low = ours.low in
    let version : has_no_version u ≡ false = grind (arith, nat_tests) in
    let root = not_root u ours.set (sound.invariant.files.no_root u ours.here) in
    λ i. cond (not (same i)) (Some WrongSet) (cond (plain i) (Some Compressed) (cond (early i) (Some Skewed) (cond (version i) (Some Version) (cond (root i) (Some Root) None))))

-- ---- nothing of its own member is ahead

not_ahead : (w : World) (d : ℕ) (m : Machine) (db version : ℕ) → MachineStands w.all (w.at d) d m → (db ≡ d → version < (w.at d).consumed) → is_ahead m db version ≡ false
not_ahead w d m db version s made = by (is_ahead m db version) refl
  where
    by : (t : Bool) → is_ahead m db version ≡ t → t ≡ false
    by false e = refl
    by true e =
        let own : db ≡ m.book.own = grind (arith, nat_tests) in
        let past : m.book.consumed ≤ version = grind (arith, nat_tests) in
        let below = made (own ∙ s.own) in
        let now = s.book.consumed in
        absurd (omega (arith, past, below, now))

none_ahead : (w : World) (d : ℕ) (m : Machine) (u : Update) → MachineStands w.all (w.at d) d m → IsFitToAdopt w d u → own_ahead m u ≡ None
none_ahead w d m u s fit =
    let gvsn = not_ahead w d m u.gvsn.db u.gvsn.version s fit.version_ahead in
    let uid = not_ahead w d m u.uid.db u.uid.version s fit.file_ahead in
    λ i. cond (gvsn i) (Some (OwnAhead u.gvsn.version)) (cond (uid i) (Some (OwnAhead u.uid.version)) None)

-- ---- it is of one kind

kind_self : (k : Kind) → same_kind k k ≡ true
kind_self File = refl
kind_self Directory = refl

no_other_kind : (k : Kind) (found : Option Kind) → (found ≡ None) ⊎ (found ≡ Some k) → option_map KindDiffers (kept_if (λ held. not (same_kind held k)) found) ≡ None
no_other_kind k found (inl e) = ap (λ f. option_map KindDiffers (kept_if (λ held. not (same_kind held k)) f)) e
no_other_kind k found (inr e) =
    let self = kind_self k in
    ap (λ f. option_map KindDiffers (kept_if (λ held. not (same_kind held k)) f)) e ∙ (λ i. option_map KindDiffers (cond (not (self i)) (Some k) None))

find_is : {X : Type 0} (test : X → Bool) (xs : List X) (x : X) → find test xs ≡ Some x → In x xs × (test x ≡ true)
find_is test [] x e = absurd (cc)
find_is test (y ∷ ys) x e = by (test y) refl e (find_is test ys x)
  where
    by : (t : Bool) → test y ≡ t → cond t (Some y) (find test ys) ≡ Some x → (find test ys ≡ Some x → In x ys × (test x ≡ true)) → In x (y ∷ ys) × (test x ≡ true)
    by true p q k = let same : y ≡ x = cc in (inl (sym same), subst (λ z. test z ≡ true) same p)
    by false p q k = let (h, t) = k q in (inr h, t)

kind_found : (w : World) (d : ℕ) (m : Machine) (u : Update) → MachineStands w.all (w.at d) d m → IsFitToAdopt w d u → (kind_at m u.uid ≡ None) ⊎ (kind_at m u.uid ≡ Some (kind_of u))
kind_found w d m u s fit = by (held_of m.book.records u.uid) refl (object_of m.volume u.uid) refl
  where
    by : (held : Option Update) → held_of m.book.records u.uid ≡ held → (found : Option Object) → object_of m.volume u.uid ≡ found
        → (first_of (option_map kind_of held ∷ option_map (λ (o : Object). o.kind) found ∷ []) ≡ None) ⊎ (first_of (option_map kind_of held ∷ option_map (λ (o : Object). o.kind) found ∷ []) ≡ Some (kind_of u))
    by (Some v) e found f =
        let (here, file) = find_in m.book.records u.uid v e in
        inr (ap Some (fit.kinds v (s.book.records.each v here) file))
    by None e None f = inl refl
    by None e (Some o) f =
        let (here, file) = find_is (λ x. same_uid (uid_of m.volume.own x) u.uid) m.volume.objects o f in
        let at : object_at m.volume.objects o.fid ≡ Some o = in_at 0 o m.volume.objects s.sound.order.volume.tree.rising here in
        let own = s.sound.order.own ∙ s.own in
        let uid : uid_of d o ≡ u.uid = sym (ap (λ x. uid_of x o) own) ∙ same_uid_is (uid_of m.volume.own o) u.uid file in
        inr (ap Some (fit.object_kind o.fid o (s.volume.objects o.fid ∙ at) uid))

-- ---- it beats what is held, and isn't covered

not_beaten : (w : World) (d : ℕ) (m : Machine) (u : Update) → IsSoundWorld w → MachineStands w.all (w.at d) d m → IsWanted w d u → beaten m u ≡ None
not_beaten w d m u sound s (held, is_held, better) =
    by (held_of m.book.records u.uid) (one_held (Covered w.all (w.at d).known) u.uid held (held_of m.book.records u.uid) (λ a b p q e. sound.invariant.versions.one_each a b p.0 q.0 e) is_held (found_held w.all (w.at d).known m.book.records u.uid s.book.records))
  where
    by : (found : Option Update) → held ≡ found → option_map Beaten (kept_if (λ k. not (key_lt k (key_of u))) (option_map key_of found)) ≡ None
    by None e = refl
    by (Some r) e =
        let b : Beats u r = subst (λ h. MatchOption h (Unit {0}) (λ x. Beats u x)) e better in
        let lower = b.greater in
        λ i. option_map Beaten (cond (not (lower i)) (Some (key_of r)) None)

not_doubled : (w : World) (d : ℕ) (m : Machine) (u : Update) → MachineStands w.all (w.at d) d m → IsFitToAdopt w d u → doubled m u ≡ None
not_doubled w d m u s fit = let no = s.book.vector.covering u.gvsn ∙ fit.new in λ i. cond (no i) (Some (Doubled u.gvsn)) None

-- none of the refusals stands
pub no_refusal : (w : World) (d : ℕ) (m : Machine) (u : Update) → IsSoundWorld w → MachineStands w.all (w.at d) d m → IsOurs w u → WasSent w u → IsWanted w d u → adopt_refusal m u ≡ None
no_refusal w d m u sound s ours sent wanted =
    let fit = adoptions_fit w d u (with_member w d (adopted_by u (w.at d))) sound.invariant (sent, wanted, refl) in
    let a : unfit m u ≡ None = ap (option_map Unfit) (is_fit w u m.book.set sound ours s.set) in
    let b = none_ahead w d m u s fit in
    let c : kind_differs m u ≡ None = no_other_kind (kind_of u) (kind_at m u.uid) (kind_found w d m u s fit) in
    let e = not_beaten w d m u sound s wanted in
    let f = not_doubled w d m u s fit in
    λ i. first_of (a i ∷ b i ∷ c i ∷ e i ∷ f i ∷ [])

-- ---- its form

-- what is staged has the sum that the member has
abbrev IsStagedOf : Update → Option (List ℕ) → Type 0
IsStagedOf u given = (if is_file u then Some u.hash else None) ≡ option_map form_sum given

-- what is taken with the update, which nothing refuses
record TakesForm (u : Update) (form : Option (List ℕ)) (m : Machine) (reply : Reply) (new : Machine) : Type 0 where
  pub given : Option (List ℕ)
  pub came : (bytes : List ℕ) → given ≡ Some bytes → form ≡ Some bytes
  pub staged : IsStagedOf u given
  pub takes : Takes (cmd.Adopt u given) Adopted m reply new

takes_form : (u : Update) (form : Option (List ℕ)) (m : Machine) (reply : Reply) (new : Machine) → HasForm u form → AnswersForm u form m reply new → TakesForm u form m reply new
takes_form u form m reply new has (outcome, stages, h) = by (is_file u) refl stages
  where
    result : Result (Option (List ℕ)) Refusal → Type 0
    result r = MatchResult r (λ given. Takes (cmd.Adopt u given) Adopted m reply new) (λ why. Refuses why m reply new)

    taken : (form' contents : List ℕ) → form ≡ Some form' → form_sum form' ≡ u.hash → IsLocalForm form' contents → is_file u ≡ true
        → ChecksForm form' u.hash (Some form') outcome → TakesForm u form m reply new
    taken bytes contents is sum of_local file (inl (at, bad, refused)) = absurd (local_forms_have_no_bad_place bytes contents at of_local bad)
    taken bytes contents is sum of_local file (inr (more, too, inl (differs, refused))) = absurd (differs sum)
    taken bytes contents is sum of_local file (inr (more, too, inr (same, done))) = record {
      given = Some bytes;
      came = λ other same. is ∙ same;
      staged = ap (λ b. if b then Some u.hash else None) file ∙ ap (λ s. Some s) (sym sum);
      takes = subst result done h;
    }

    by : (b : Bool) → is_file u ≡ b → MatchBool b (ChecksForm (unwrap_or form []) u.hash (Some (unwrap_or form [])) outcome) (outcome ≡ Ok None) → TakesForm u form m reply new
    by true file checks =
        let (bytes, contents, is, sum, of_local) = has file in
        taken bytes contents is sum of_local file (subst (λ f. ChecksForm (unwrap_or f []) u.hash (Some (unwrap_or f [])) outcome) is checks)
    by false other done = record {
      given = None;
      came = λ bytes e. absurd (cc);
      staged = ap (λ b. if b then Some u.hash else None) other;
      takes = subst result done h;
    }

-- ---- the machine

-- the book of a member that adopted an update
book_on : (w : World) (d : ℕ) (u : Update) (given : Option (List ℕ)) (m new : Machine) → IsSoundWorld w → (s : MachineStands w.all (w.at d) d m) → IsOurs w u → IsWanted w d u
    → Changed (cmd.Adopt u given) m new → StandsFor w.all (plus (w.at d).known u.gvsn) (w.at d).consumed (w.at d).phase (with_uid s.forms u.uid given) new.book
book_on w d u given m new sound s ours wanted changed =
    let x = w.at d in
    adopts_on w.all x.known x.consumed x.phase s.forms m.book new.book u given s.book sound.invariant.versions.one_each ours.here (record { set = ours.set ∙ sym s.set; better = wanted }) changed.book

-- the form that came is that of what was given, and the others are as they were
adopted_holds : (w : World) (d : ℕ) (u : Update) (form staged : Option (List ℕ)) (m new : Machine) → IsSoundWorld w → MachineStands w.all (w.at d) d m → IsOurs w u → IsWanted w d u → ((bytes : List ℕ) → staged ≡ Some bytes → form ≡ Some bytes)
    → Changed (cmd.Adopt u staged) m new → (contents : Contents) (given : Option (List ℕ)) → IsFormOfGiven given form → HoldsContents (contents d) m → HoldsContents (with_contents contents d u.uid given d) new
adopted_holds w d u form staged m new sound s ours wanted came changed contents given is h uid bytes e =
    by given is (sym ((book_on w d u staged m new sound s ours wanted changed).staged uid) ∙ e)
  where
    others : (b : Bool) (x : List ℕ) → form ≡ Some (spelling local x) → cond b staged (s.forms uid) ≡ Some bytes → bytes ≡ spelling local (cond b x (contents d uid))
    others true x is e = let same = came bytes e in cc
    others false x is e = h uid bytes (s.book.staged uid ∙ e)

    none : (b : Bool) → form ≡ None → cond b staged (s.forms uid) ≡ Some bytes → bytes ≡ spelling local (contents d uid)
    none true is e = absurd (none_some bytes (sym is ∙ came bytes e))
    none false is e = h uid bytes (s.book.staged uid ∙ e)

    by : (given : Option (List ℕ)) → IsFormOfGiven given form → cond (same_uid uid u.uid) staged (s.forms uid) ≡ Some bytes → bytes ≡ spelling local (with_contents contents d u.uid given d uid)
    by None is e = none (same_uid uid u.uid) is e
    by (Some x) is e =
        others (same_uid uid u.uid) x is e ∙ ap (spelling local) (sym (ap (λ f. f uid) (at_same contents d (with_uid (contents d) u.uid x))))

adopted_stands : (w : World) (d : ℕ) (u : Update) (given : Option (List ℕ)) (m new : Machine) → IsSoundWorld w → MachineStands w.all (w.at d) d m → IsSoundMachine new → IsOurs w u → IsWanted w d u → IsStagedOf u given
    → Changed (cmd.Adopt u given) m new → MachineStands w.all (adopted_by u (w.at d)) d new
adopted_stands w d u given m new sound s keeps ours wanted staged changed =
    let x = w.at d in
    let on = book_on w d u given m new sound s ours wanted changed in
    record {
      sound = keeps;
      own = changed.book.own ∙ s.own;
      set = changed.book.set ∙ s.set;
      kind = changed.book.kind ∙ s.kind;
      forms = with_uid s.forms u.uid given;
      book = on;
      staged = staged_with x.staged s.forms u.uid _ given s.staged staged;
      volume = subst (λ v. Stands v x.volume) (sym changed.volume) s.volume;
    }

widths : (w : World) (d : ℕ) (m : Machine) (u : Update) → MachineStands w.all (w.at d) d m → plus (covers m.book.vector) u.gvsn ≡ plus (w.at d).known u.gvsn
widths w d m u s = λ i. plus (covered_is (w.at d).known m.book.vector s.book.vector i) u.gvsn

takes : (w : World) (d : ℕ) (u : Update) (form given : Option (List ℕ)) (m : Machine) (reply : Reply) (new : Machine) → IsSoundWorld w → MachineStands w.all (w.at d) d m → IsSoundMachine new → IsOurs w u → WasSent w u → IsWanted w d u
    → ((bytes : List ℕ) → given ≡ Some bytes → form ≡ Some bytes) → IsStagedOf u given → Takes (cmd.Adopt u given) Adopted m reply new → Adopts w d u form m reply new ⊎ IsTooWide w d u m reply new
takes w d u form given m reply new sound s keeps ours sent wanted came staged (inl (said, changed)) =
    let after = with_member w d (adopted_by u (w.at d)) in
    let passes = passes_adopt w d u after sound (sent, wanted, refl) in
    inl (record {
      fits = fits_by _ (plus (w.at d).known u.gvsn) new.book.vector (widths w d m u s) changed.book.vector changed.within;
      after = after;
      step = (sent, wanted, refl);
      reply_is = said;
      goes = record {
        passes = passes;
        stands = subst (λ x. MachineStands w.all x d new) (sym (at_same w.at d (adopted_by u (w.at d)))) (adopted_stands w d u given m new sound s keeps ours wanted staged changed);
        beside = beside_same w after d refl passes;
        ours = λ h. h;
        counted = let same = changed.book.consumed in let kept = recorded_kept m new changed.volume (omega (arith, same)) in omega (arith, kept);
      };
      holds = λ contents bytes is h. adopted_holds w d u form given m new sound s ours wanted came changed contents bytes is h;
      volume = changed.volume;
    })
takes w d u form given m reply new sound s keeps ours sent wanted came staged (inr (count, (full, (said, same)))) = inr (record {
  count = count;
  exceeds = exceeds_by _ (plus (w.at d).known u.gvsn) count (widths w d m u s) (vector_plus (w.at d).known u.gvsn (sound.vectors d)) full;
  reply_is = said;
  same = same;
})

-- an update that was sent and is wanted is adopted, a present file with its form, or its version would make too many intervals
pub adopts_at : (w : World) (d : ℕ) (u : Update) (form : Option (List ℕ)) → HasForm u form → (m : Machine) (reply : Reply) (new : Machine) → IsSoundWorld w → MachineStands w.all (w.at d) d m → IsSoundMachine new → IsOurs w u → WasSent w u → IsWanted w d u
    → AnswersAdopt u form m reply new → Adopts w d u form m reply new ⊎ IsTooWide w d u m reply new
adopts_at w d u form has m reply new sound s keeps ours sent wanted answers =
    let t = takes_form u form m reply new has
    (subst (λ r. MatchOption r (AnswersForm u form m reply new) (λ why. Refuses why m reply new)) (no_refusal w d m u sound s ours sent wanted) answers) in
    takes w d u form t.given m reply new sound s keeps ours sent wanted t.came t.staged t.takes
