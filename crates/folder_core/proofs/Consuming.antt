-- Commands on the book that may be taken, and what they answer.
use Rattle.std.proofs.Common.{◌≡◌, ◌<◌, ◌≤◌, ◌-◌, ◌^◌, ◌&&◌, not, ℕ, Bool, true, false, cond, eqb, leb, ltb, List, Option, Some, None, Result, Ok, Err, refl, sym, ap, ◌∙◌, subst, inl, inr, arith}
use Rattle.std.specs.Prelude.{[], if◌then◌else◌, IfOk, MatchBool, IsSome, option_map, unwrap_or}
use Rattle.std.proofs.lemmas.Bool.Decides.{nat_tests}
use Rattle.frs_base.specs.Versions.{same_gvsn}
use Rattle.frs_base.specs.declared.version.Gvsn.{Gvsn}
use Rattle.version_vector.specs.Versions.{covers}
use Rattle.win_order.specs.declared.update.Update.{Update}
use Rattle.vol_state.specs.declared.record.VolRecord.{VolRecord}
use Rattle.vol_state.specs.Journal.{record_at}
use Rattle.vol_state.specs.Maps.{maps_of}
use Rattle.record_db.specs.declared.command.BookCmd.TheVariants as cmd
use Rattle.record_db.specs.Records.{plus}
use Rattle.record_db.specs.State.{BookState}
use Rattle.record_db.specs.Steps.{own_version}
use Rattle.record_db.proofs.Keys.{same_gvsn_refl}
use Rattle.record_db.proofs.Sets.{plus_new}
use Rattle.name_rules.specs.Recorded.{base_fence, held_of, made_of, recorded_of}
use Rattle.name_rules.specs.Tree.{is_file}
use Rattle.name_rules.proofs.Cases.{made_version}
use Rattle.usn_consumer.specs.Next.{HasClock, IsNext, have_clocks, making, next_of}
use Rattle.usn_consumer.specs.declared.consumed.Consumed.{Consumed}
use Rattle.usn_consumer.specs.declared.consumed.Consumed.TheVariants.{End, Make, Skip}
use Rattle.usn_consumer.proofs.Clocks.{clocks_of_each}
use Rattle.std.specs.declared.alloc.AllocError.{AllocError}
use Rattle.name_rules.specs.declared.step.Next.TheVariants as next
use Rattle.name_rules.specs.declared.step.Step.TheVariants as step
use Rattle.name_rules.proofs.Made.{passes_replicas}
use Rattle.folder_core.specs.declared.answer.Answer.{Answer}
use Rattle.folder_core.specs.declared.refusal.Refusal.{Refusal}
use Rattle.folder_core.specs.declared.refusal.Refusal.TheVariants.{Skewed}
use Rattle.folder_core.specs.declared.reply.Reply.{Reply}
use Rattle.folder_core.specs.declared.reply.Reply.TheVariants.{Made, Nothing, Skipped}
use Rattle.folder_core.specs.Machine.{Machine, Refuses}
use Rattle.folder_core.specs.Books.{Takes}
use Rattle.folder_core.specs.Consume.{AnswersConsume, AnswersMade, AnswersRecord, made_at}
use Rattle.folder_core.specs.Adopt.{ChecksForm, Stages, adopt_refusal}
use Rattle.folder_core.specs.Given.{MayTake}
use Rattle.folder_core.specs.Install.{IsNextOf}
use Rattle.folder_core.specs.Notes.{form_sum}
use Rattle.folder_core.specs.Sound.{IsSound, MayBeStaged}
use Rattle.folder_core.proofs.Fitting.{gives_way_to, is_clear, is_fit}
use Rattle.folder_core.proofs.Held.{each_of, record_there}
use Rattle.folder_core.proofs.Sounding.{IsStagedOf, adopted_sound, recorded_sound}

-- ---- what next_record asks for

pub have_clocks_of : (m : Machine) → IsSound m → have_clocks m.book.records ≡ true
have_clocks_of m h = clocks_of_each m.book.records (λ u a. each_of (λ v. v.clock < 2 ^ 62) m.book.records u h.bounds.clocks a)

is_some : {T : Type 0} (x : Option T) (y : T) → x ≡ Some y → IsSome x
is_some (Some x) y e = refl
is_some None y e = absurd (cc)

pub is_next : (m : Machine) → IsSound m → IsNext m.volume m.book.consumed
is_next m h = by (eqb m.book.consumed m.volume.next_usn) refl
  where
    by : (b : Bool) → eqb m.book.consumed m.volume.next_usn ≡ b → IsNext m.volume m.book.consumed
    by true e = inl (grind (arith, nat_tests))
    by false e =
        let low = h.order.consumed in
        let left : m.book.consumed < m.volume.next_usn = grind (arith, nat_tests) in
        let (r, there) = record_there m.volume m.book.consumed h.order.numbered h.bounds.begun left in
        inr (is_some (record_at m.volume.journal m.book.consumed) r there)

-- ---- a journal record

-- what is made comes of a record that is left
record Comes (m : Machine) (moment : ℕ) (made : Option Update) : Type 0 where
  pub left : eqb m.book.consumed m.volume.next_usn ≡ false
  pub is : made ≡ made_at m moment

comes_of : (m : Machine) (moment : ℕ) (made : Option Update) → making made ≡ next_of m.volume m.book moment → Comes m moment made
comes_of m moment made e = by (eqb m.book.consumed m.volume.next_usn) refl made (made_at m moment) refl e
  where
    by : (b : Bool) → eqb m.book.consumed m.volume.next_usn ≡ b → (x y : Option Update) → y ≡ made_at m moment → making x ≡ cond b End (making y) → Comes m moment x
    by true l None y i e = absurd (cc)
    by true l (Some x) y i e = absurd (cc)
    by false l None None i e = record { left = l; is = i }
    by false l None (Some y) i e = absurd (cc)
    by false l (Some x) None i e = absurd (cc)
    by false l (Some x) (Some y) i e = record { left = l; is = let same : x ≡ y = cc in ap (λ z. Some z) same ∙ i }

own_made : (m : Machine) (moment : ℕ) (u : Update) → IsSound m → m.book.consumed < m.volume.next_usn → Some u ≡ made_at m moment → u.gvsn ≡ own_version m.book m.book.consumed
own_made m moment u h left is =
    let (r, there) = record_there m.volume m.book.consumed h.order.numbered h.bounds.begun left in
    let made : Some u ≡ recorded_of m.volume.own (maps_of m.volume) (base_fence m.book.phase m.book.kind) m.book.consumed moment r (held_of m.book.records r.uid) =
    is ∙ ap (λ found. made_of found (λ s. recorded_of m.volume.own (maps_of m.volume) (base_fence m.book.phase m.book.kind) m.book.consumed moment s (held_of m.book.records s.uid))) there in
    made_version m.volume.own (maps_of m.volume) (base_fence m.book.phase m.book.kind) m.book.consumed moment r (held_of m.book.records r.uid) u made
    ∙ ap (λ own. record { db = own; version = m.book.consumed }) h.order.own

has_next_of : (n next : ℕ) → n ≤ next → next < 2 ^ 64 - 1 → ltb n (2 ^ 64 - 1) ≡ true
has_next_of n next low high = grind (arith, nat_tests)

same_number : (n : ℕ) → eqb n n ≡ true
same_number n = grind (arith, nat_tests)

both_so : (a b : Bool) → a ≡ true → b ≡ true → (a && b) ≡ true
both_so true true p q = refl
both_so true false p q = absurd (cc)
both_so false b p q = absurd (cc)

-- the version that is consumed isn't covered before
new_version : (m : Machine) → IsSound m → (new : BookState) → ((g : Gvsn) → covers new.vector g ≡ plus (covers m.book.vector) (own_version m.book m.book.consumed) g) → new.vector ≡ m.book.vector → ⊥
new_version m h new covering same =
    let g = own_version m.book m.book.consumed in
    let covered : covers m.book.vector g ≡ true = ap (λ l. covers l g) (sym same) ∙ (covering g ∙ plus_new (covers m.book.vector) g) in
    let low : m.book.consumed < m.book.consumed = h.order.book.made g covered refl in
    omega (arith, low)

-- the next journal record may be consumed
pub may_record : (m : Machine) (moment : ℕ) (made : Option Update) → IsSound m → m.volume.next_usn < 2 ^ 64 - 1 → making made ≡ next_of m.volume m.book moment → HasClock (making made)
    → MayTake (cmd.RecordLocal m.book.consumed made) m
may_record m moment made h numbers e has = by made (comes_of m moment made e) has
  where
    by : (made : Option Update) → Comes m moment made → HasClock (making made) → MayTake (cmd.RecordLocal m.book.consumed made) m
    by None comes has =
        let low = h.order.consumed in
        let apart = comes.left in
        let left : m.book.consumed < m.volume.next_usn = grind (arith, nat_tests) in
        record {
          allowed = both_so _ _ (same_number m.book.consumed) (both_so _ _ (has_next_of m.book.consumed m.volume.next_usn low numbers) refl);
          sound = λ new book c. recorded_sound m moment None new h comes.is tt left book c;
          changes = λ new c. new_version m h new c.vector.covering;
        }
    by (Some u) comes has =
        let low = h.order.consumed in
        let apart = comes.left in
        let left : m.book.consumed < m.volume.next_usn = grind (arith, nat_tests) in
        let own = own_made m moment u h left comes.is in
        record {
          allowed = both_so _ _ (same_number m.book.consumed) (both_so _ _ (has_next_of m.book.consumed m.volume.next_usn low numbers)
              (ap (λ g. same_gvsn g (own_version m.book m.book.consumed)) own ∙ same_gvsn_refl (own_version m.book m.book.consumed)));
          sound = λ new book c. recorded_sound m moment (Some u) new h comes.is has left book c;
          changes = λ new c. new_version m h new c.vector.covering;
        }

-- a journal record of the installer's own may be passed
pub may_skip : (m : Machine) (usn : ℕ) → IsSound m → m.volume.next_usn < 2 ^ 64 - 1 → IsNextOf m (next.Do (step.Skip usn)) → MayTake (cmd.RecordLocal usn None) m
may_skip m usn h numbers (quiet, n) = by n.candidate
  where
    by : (c : (r : VolRecord) × (usn ≡ m.book.consumed) × (record_at m.volume.journal usn ≡ Some r)) → MayTake (cmd.RecordLocal usn None) m
    by (r, is, at) =
        let left : m.book.consumed < m.volume.next_usn = subst (λ k. k < m.volume.next_usn) is (h.agrees.member.numbers.entries usn r at) in
        let low = h.order.consumed in
        let passes : None ≡ made_at m 0 = sym (passes_replicas m.volume m.book.consumed m.book.records 0 m.book.phase m.book.kind r (subst (λ k. record_at m.volume.journal k ≡ Some r) is at)
        (quiet usn r (subst (λ k. m.book.consumed ≤ k) (sym is) (omega arith)) at)) in
        subst (λ k. MayTake (cmd.RecordLocal k None) m) (sym is) (record {
          allowed = both_so _ _ (same_number m.book.consumed) (both_so _ _ (has_next_of m.book.consumed m.volume.next_usn low numbers) refl);
          sound = λ new book c. recorded_sound m 0 None new h passes tt left book c;
          changes = λ new c. new_version m h new c.vector.covering;
        })

-- ---- what consuming answers

pub answers_end : (m : Machine) (moment : ℕ) (reply : Reply) (new : Machine) → End ≡ next_of m.volume m.book moment → (reply ≡ Nothing) × (new ≡ m) → AnswersConsume moment m reply new
answers_end m moment reply new e h = by (eqb m.book.consumed m.volume.next_usn) (made_at m moment) e
  where
    by : (b : Bool) (made : Option Update) → End ≡ cond b End (making made) → MatchBool b ((reply ≡ Nothing) × (new ≡ m)) (AnswersRecord made m reply new)
    by true made e = h
    by false None e = absurd (cc)
    by false (Some u) e = absurd (cc)

pub answers_skip : (m : Machine) (moment : ℕ) (reply : Reply) (new : Machine) → Skip ≡ next_of m.volume m.book moment
    → Takes (cmd.RecordLocal m.book.consumed None) (Skipped m.book.consumed) m reply new → AnswersConsume moment m reply new
answers_skip m moment reply new e h = by (eqb m.book.consumed m.volume.next_usn) (made_at m moment) e
  where
    by : (b : Bool) (made : Option Update) → Skip ≡ cond b End (making made) → MatchBool b ((reply ≡ Nothing) × (new ≡ m)) (AnswersRecord made m reply new)
    by true made e = absurd (cc)
    by false None e = h
    by false (Some u) e = absurd (cc)

made_small : (u : Update) (m : Machine) (reply : Reply) (new : Machine) → u.clock < 2 ^ 62 → Takes (cmd.RecordLocal m.book.consumed (Some u)) (Made u.gvsn) m reply new → AnswersMade u m reply new
made_small u m reply new small h = by (leb (2 ^ 62) u.clock) refl
  where
    by : (b : Bool) → leb (2 ^ 62) u.clock ≡ b → MatchBool b (Refuses (Skewed u.clock) m reply new) (Takes (cmd.RecordLocal m.book.consumed (Some u)) (Made u.gvsn) m reply new)
    by true e = absurd (grind (arith, nat_tests))
    by false e = h

made_late : (u : Update) (m : Machine) (reply : Reply) (new : Machine) → 2 ^ 62 ≤ u.clock → Refuses (Skewed u.clock) m reply new → AnswersMade u m reply new
made_late u m reply new late h = by (leb (2 ^ 62) u.clock) refl
  where
    by : (b : Bool) → leb (2 ^ 62) u.clock ≡ b → MatchBool b (Refuses (Skewed u.clock) m reply new) (Takes (cmd.RecordLocal m.book.consumed (Some u)) (Made u.gvsn) m reply new)
    by true e = h
    by false e = absurd (grind (arith, nat_tests))

pub answers_make : (m : Machine) (moment : ℕ) (u : Update) (reply : Reply) (new : Machine) → Make u ≡ next_of m.volume m.book moment → AnswersMade u m reply new → AnswersConsume moment m reply new
answers_make m moment u reply new e h = by (eqb m.book.consumed m.volume.next_usn) (made_at m moment) e
  where
    by : (b : Bool) (made : Option Update) → Make u ≡ cond b End (making made) → MatchBool b ((reply ≡ Nothing) × (new ≡ m)) (AnswersRecord made m reply new)
    by true made e = absurd (cc)
    by false None e = absurd (cc)
    by false (Some v) e = let same : u ≡ v = cc in subst (λ x. AnswersMade x m reply new) same h

pub answers_made : (m : Machine) (moment : ℕ) (u : Update) (reply : Reply) (new : Machine) → Make u ≡ next_of m.volume m.book moment → u.clock < 2 ^ 62
    → Takes (cmd.RecordLocal m.book.consumed (Some u)) (Made u.gvsn) m reply new → AnswersConsume moment m reply new
answers_made m moment u reply new e small h = answers_make m moment u reply new e (made_small u m reply new small h)

pub answers_skewed : (m : Machine) (moment clock : ℕ) (reply : Reply) (new : Machine)
    → (u : Update) × (next_of m.volume m.book moment ≡ Make u) × (u.clock ≡ clock) × (2 ^ 62 ≤ clock) → Refuses (Skewed clock) m reply new → AnswersConsume moment m reply new
answers_skewed m moment clock reply new (u, e, is, late) h =
    answers_make m moment u reply new (sym e) (made_late u m reply new (subst (λ n. 2 ^ 62 ≤ n) (sym is) late) (subst (λ n. Refuses (Skewed n) m reply new) (sym is) h))

-- ---- a partner's update

-- an update that isn't refused may be taken
pub may_adopt : (m : Machine) (u : Update) (form : Option (List ℕ)) → IsSound m → u.gvsn.version < 2 ^ 64 → adopt_refusal m u ≡ None → IsStagedOf u form → MayTake (cmd.Adopt u form) m
may_adopt m u form h fits none staged =
    let clear = is_clear m u none in
    let last = clear.taken.version in
    let below : u.gvsn.version < 2 ^ 64 - 1 = omega (arith, fits, last) in
    record {
      allowed = both_so _ _ (small u.gvsn.version below) (both_so _ _ (ap not clear.version_ahead) (both_so _ _ (ap not clear.file_ahead) (both_so _ _ (ap not clear.new) (gives_way_to m u clear))));
      sound = λ new book c. adopted_sound m u form new h clear.taken.set_is clear.taken.clock (is_fit m u h.order clear h.set) staged book c;
      changes = λ new c same. (let covered : covers m.book.vector u.gvsn ≡ true = ap (λ l. covers l u.gvsn) (sym same) ∙ (c.vector.covering u.gvsn ∙ plus_new (covers m.book.vector) u.gvsn) in cc (covered, clear.new));
    }
  where
    small : (n : ℕ) → n < 2 ^ 64 - 1 → ltb n (2 ^ 64 - 1) ≡ true
    small n low = grind (arith, nat_tests)

-- ---- the same, of what equals it

pub may_at : (m now : Machine) (usn : ℕ) (made : Option Update) → usn ≡ m.book.consumed → m ≡ now → MayTake (cmd.RecordLocal m.book.consumed made) m → MayTake (cmd.RecordLocal usn made) now
may_at m now usn made p q h = subst (λ x. MayTake (cmd.RecordLocal usn made) x) q (subst (λ n. MayTake (cmd.RecordLocal n made) m) (sym p) h)

pub answers_recorded : (m now : Machine) (moment usn : ℕ) (u : Update) (found : Consumed) (r : Result Answer AllocError) (new : Machine) → m ≡ now → usn ≡ m.book.consumed → found ≡ Make u
    → found ≡ next_of m.volume m.book moment → HasClock found
    → IfOk r (λ a. Takes (cmd.RecordLocal usn (Some u)) (Made u.gvsn) now a.reply new) → IfOk r (λ a. AnswersConsume moment now a.reply new)
answers_recorded m now moment usn u found (Ok a) new p q is e has h =
    let e' : Make u ≡ next_of now.volume now.book moment = subst (λ (x : Machine). Make u ≡ next_of x.volume x.book moment) p (sym is ∙ e) in
    let small : u.clock < 2 ^ 62 = subst HasClock is has in
    answers_made now moment u a.reply new e' small (subst (λ n. Takes (cmd.RecordLocal n (Some u)) (Made u.gvsn) now a.reply new) (q ∙ ap (λ (x : Machine). x.book.consumed) p) h)
answers_recorded m now moment usn u found (Err x) new p q is e has h = tt

-- ---- forms

-- what is staged with an update is what it is to be
pub staged_of : (u : Update) (form : Option (List ℕ)) (staged : Result (Option (List ℕ)) Refusal) (given : Option (List ℕ)) → Stages u form staged → staged ≡ Ok given → MayBeStaged given → IsStagedOf u given
staged_of u form staged given h is may = record { sum = by (is_file u) refl h; local = may }
  where
    ok_is : (x y : Option (List ℕ)) → staged ≡ Ok x → staged ≡ Ok y → x ≡ y
    ok_is x y p q = cc

    err_ok : (w : Refusal) (x : Option (List ℕ)) → staged ≡ Err w → staged ≡ Ok x → ⊥
    err_ok w x p q = cc

    by : (b : Bool) → is_file u ≡ b → MatchBool b (ChecksForm (unwrap_or form []) u.hash (Some (unwrap_or form [])) staged) (staged ≡ Ok None)
        → option_map form_sum given ≡ (if is_file u then Some u.hash else None)
    by true file (inl (at, bad, refused)) = absurd (err_ok _ given refused is)
    by true file (inr (contents, local, inl (other, refused))) = absurd (err_ok _ given refused is)
    by true file (inr (contents, local, inr (same, taken))) =
        ap (λ o. option_map form_sum o) (ok_is given (Some (unwrap_or form [])) is taken) ∙ (ap (λ s. Some s) same ∙ ap (λ b. if b then Some u.hash else None) (sym file))
    by false other nothing = ap (λ o. option_map form_sum o) (ok_is given None is nothing) ∙ ap (λ b. if b then Some u.hash else None) (sym other)
