-- The small worlds, computed.
use Rattle.std.proofs.Common.{◌≡◌, ◌≢◌, ◌⊎◌, ℕ, List, zero, suc, true, false, [], ◌∷◌, drop, refl, sym, ap, ◌∙◌, subst, arith, inl, inr, Some, None}
use Rattle.frs_base.specs.Options.{In}
use Rattle.win_order.specs.Order.{Beats, key_lt, key_of}
use Rattle.win_order.specs.declared.update.Update.{Update}
use Rattle.frs_base.specs.declared.kind.Kind.TheVariants.{File}
use Rattle.vol_state.specs.declared.command.VolCmd.TheVariants.{Make, Place, PutNew, PutOver}
use Rattle.record_db.specs.Records.{Covered, IsRecord, IsWinner, Versions, plus}
use Rattle.name_rules.specs.Tree.{IsShown}
use Rattle.world_model.specs.World.{World, IsRecordOf, with_member}
use Rattle.world_model.specs.Events.{Adopt, Consume, Finish, Install, Local, SendUpdate, Step, Unstage, adopted_by, consumes, finished_by, operated, sends_update, sends_vector, unstaged_at}
use Rattle.world_model.specs.Examples.{DueRows, Installs, IsOnly, ParentCycle, Superseded, Tie, cycle, begin, changed_vector, file, first_vector, installed_vector, last_vector, moved_p, moved_q, superseded, tie, uid_p, version, x}
use Rattle.world_model.specs.Laws.{IsAnswerAt}
use Rattle.world_model.specs.Runs.{Run}
use Rattle.vol_state.specs.Conditions.{root_uid}
use Rattle.vol_state.specs.Maps.{fresh_maps}
use Rattle.vol_state.specs.declared.object.Object.{Object}
use Rattle.vol_state.specs.State.{uid_of}
use Rattle.vol_state.specs.Sums.{content_sum}
use Rattle.vol_state.specs.Tables.{IsAt, IsBeneath, IsFree}
use Rattle.name_rules.specs.Next.{IsCandidate, IsPending, IsQuiet, place_lt, place_of}
use Rattle.name_rules.specs.declared.step.Step.{Step as InstallStep}
use Rattle.name_rules.specs.declared.step.Step.TheVariants as install_step
use Rattle.name_rules.specs.declared.step.Next.TheVariants as install_next
use Rattle.name_rules.specs.Recorded.{parent_uid}
use Rattle.name_rules.proofs.Showing.{shown_record}
use Rattle.world_model.proofs.Changing.{at_other}
use Rattle.world_model.proofs.Computed.{held_by, none_shown, quiet_written, record_by, tops}
use Rattle.world_model.proofs.Facts.{at_case, none_some, some_is, true_false}

-- ---- superseded

abbrev first : Update
first = file [] (version 1 9) 2 100

abbrev second : Update
second = file (0 ∷ []) (version 1 10) 2 200

abbrev w1 : World
w1 = with_member begin 1 (operated 1 (PutNew 0 x []) (begin.at 1))

abbrev w2 : World
w2 = consumes w1 1 (Some first)

abbrev w3 : World
w3 = sends_vector w2 1

abbrev w4 : World
w4 = with_member w3 1 (operated 1 (PutOver 1 (0 ∷ [])) (w3.at 1))

abbrev w5 : World
w5 = consumes w4 1 (Some second)

abbrev w6 : World
w6 = sends_update w5 1 second

abbrev w7 : World
w7 = with_member w6 2 (adopted_by second (w6.at 2))

abbrev w8 : World
w8 = with_member w7 2 (finished_by (plus (λ g. false) (version 1 9)) (w7.at 2))

-- of the two, the second wins where it is covered
second_wins : (known : Versions) → known (version 1 10) ≡ true → IsOnly (IsWinner (Covered (first ∷ second ∷ []) known)) second
second_wins known k = tops (Covered (first ∷ second ∷ []) known) second (inr (inl refl), k) (λ v c. by v c.0)
  where
    by : (v : Update) → In v (first ∷ second ∷ []) → (v ≡ second) ⊎ Beats second v
    by v (inl e) = inr (subst (Beats second) (sym e) (record { file = refl; greater = refl }))
    by v (inr (inl e)) = inl e
    by v (inr (inr h)) = absurd h

pub superseded_is : Superseded
superseded_is = (w8, s1, second_wins _ refl, refl, refl, refl)
  where
    first_wins : IsRecordOf w4 1 first
    first_wins = record_by w4.all (w4.at 1).known first (inl refl) refl refl

    none_pending : IsPending 11 (w5.at 1).volume second.uid → ⊥
    none_pending (n, r, past, at, l, f) =
        none_some r (sym (at_other (w3.at 1).volume.entry 10 _ n (λ e. omega (arith, past, e)) ∙ at_other (begin.at 1).volume.entry 9 _ n (λ e. omega (arith, past, e))) ∙ at)

    s8 : Run w7 (drop 7 superseded) w8
    s8 = (w8, ((1, inl refl), held_by w7 2 second (second_wins _ refl).0 refl _, refl), refl)

    s7 : Run w6 (drop 6 superseded) w8
    s7 = (w7, ((1, inl refl), (None, (λ v c s. true_false false c.1 refl), tt), refl), s8)

    s6 : Run w5 (drop 5 superseded) w8
    s6 = (w6, (inr ((second_wins _ refl).0, none_pending), refl), s7)

    s5 : Run w4 (drop 4 superseded) w8
    s5 = (w5, (omega arith, Some second, (_, Some first, refl, (first_wins, refl), refl), refl), s6)

    s4 : Run w3 (drop 3 superseded) w8
    s4 = (w4, ((omega arith, _, refl, (1, inr (_, refl, inr (_, refl, refl))), refl), refl), s5)

    s2 : Run w1 (drop 1 superseded) w8
    s2 = (w2, (omega arith, Some first, (_, None, refl, (λ v c s. c.0), refl), refl), (w3, refl, s4))

    s1 : Run begin superseded w8
    s1 = (w1, ((omega arith, (inl refl, (0, refl), λ g o p a e f m. absurd (none_some o a))), refl), s2)

-- ---- two changes of one file

abbrev third : Update
third = file (2 ∷ []) (version 2 11) 3 200

abbrev later : Update
later = file (1 ∷ []) (version 1 10) 3 200

abbrev t1 : World
t1 = with_member begin 1 (operated 1 (PutNew 0 x []) (begin.at 1))

abbrev t2 : World
t2 = consumes t1 1 (Some first)

abbrev t3 : World
t3 = sends_vector t2 1

abbrev t4 : World
t4 = sends_update t3 1 first

abbrev t5 : World
t5 = with_member t4 2 (adopted_by first (t4.at 2))

abbrev t6 : World
t6 = with_member t5 2 (finished_by first_vector (t5.at 2))

abbrev t7 : World
t7 = with_member t6 2 (operated 2 (Make uid_p File []) (t6.at 2))

abbrev t8 : World
t8 = with_member t7 2 (operated 2 (Place 1 0 x) (t7.at 2))

abbrev t9 : World
t9 = with_member t8 2 (unstaged_at uid_p (t8.at 2))

abbrev t10 : World
t10 = consumes t9 2 None

abbrev t11 : World
t11 = consumes t10 2 None

abbrev t12 : World
t12 = sends_vector t11 2

abbrev t13 : World
t13 = with_member t12 1 (finished_by installed_vector (t12.at 1))

abbrev t14 : World
t14 = with_member t13 1 (operated 1 (PutOver 1 (1 ∷ [])) (t13.at 1))

abbrev t15 : World
t15 = consumes t14 1 (Some later)

abbrev t16 : World
t16 = with_member t15 2 (operated 2 (PutOver 1 (2 ∷ [])) (t15.at 2))

abbrev t17 : World
t17 = consumes t16 2 (Some third)

abbrev t18 : World
t18 = sends_vector t17 2

abbrev t19 : World
t19 = sends_update t18 2 third

abbrev t20 : World
t20 = with_member t19 1 (adopted_by third (t19.at 1))

abbrev t21 : World
t21 = with_member t20 1 (finished_by changed_vector (t20.at 1))

abbrev t22 : World
t22 = sends_vector t21 1

abbrev t23 : World
t23 = with_member t22 2 (finished_by last_vector (t22.at 2))

-- of all three, the third wins where it is covered
third_wins : (known : Versions) → known (version 2 11) ≡ true → IsOnly (IsRecord (first ∷ later ∷ third ∷ []) known) third
third_wins known k = tops (Covered (first ∷ later ∷ third ∷ []) known) third (inr (inr (inl refl)), k) (λ v c. by v c.0)
  where
    by : (v : Update) → In v (first ∷ later ∷ third ∷ []) → (v ≡ third) ⊎ Beats third v
    by v (inl e) = inr (subst (Beats third) (sym e) (record { file = refl; greater = refl }))
    by v (inr (inl e)) = inr (subst (Beats third) (sym e) (record { file = refl; greater = refl }))
    by v (inr (inr (inl e))) = inl e
    by v (inr (inr (inr h))) = absurd h

-- alone, the first wins
first_is : (known : Versions) → known (version 1 9) ≡ true → IsRecord (first ∷ []) known first
first_is known k = (tops (Covered (first ∷ []) known) first (inl refl, k) (λ v c. elim c.0 [ inl e ↦ inl e | inr h ↦ absurd h ])).0

-- and is shown
first_shown : (known : Versions) → known (version 1 9) ≡ true → IsShown (IsRecord (first ∷ []) known) first
first_shown known k = (1, (record { among = first_is known k; present = refl; greatest = λ v r p q n. by v r.among.0 }, inl refl))
  where
    by : (v : Update) → In v (first ∷ []) → key_lt (key_of first) (key_of v) ≡ false
    by v (inl e) = subst (λ y. key_lt (key_of first) (key_of y) ≡ false) (sym e) refl
    by v (inr h) = absurd h

-- nothing is in a fresh volume
empty : {X : Type 0} {P : Type 0} (o : X) → None ≡ Some o → P
empty o e = absurd (none_some o e)

-- ---- 2 pulls the first change

pulls_1 : Step begin 1 (Local (PutNew 0 x [])) t1
pulls_1 = ((omega arith, (inl refl, (0, refl), λ g o q a e f m. empty o a)), refl)

pulls_2 : Step t1 1 (Consume 100) t2
pulls_2 = (omega arith, Some first, (_, None, refl, (λ v c e. c.0), refl), refl)

pulls_4 : Step t3 1 (SendUpdate first) t4
pulls_4 = (inl (_, inl refl, first_is _ refl), refl)

pulls_5 : Step t4 2 (Adopt first) t5
pulls_5 = ((1, inl refl), (None, (λ v c e. true_false false c.1 refl), tt), refl)

pulls_6 : Step t5 2 (Finish first_vector) t6
pulls_6 = ((1, inl refl), held_by t5 2 first (first_is _ refl) refl _, refl)

-- ---- and installs it

makes : Step t6 2 (Install (Make uid_p File [])) t7
makes = ((λ n r past at. empty r at), (first, first_shown _ refl, refl, refl, λ i. (refl, refl)), (apart, (λ f o at. empty o at), λ i. refl), refl)
  where
    apart : uid_p ≡ root_uid → ⊥
    apart e = let bad : 9 ≡ 1 = ap (λ u. u.version) e in absurd (omega (arith, bad))

places : Step t7 2 (Install (Place 1 0 x)) t8
places = (quiet, (_, first, refl, first_shown _ refl, refl, refl, refl), (_, refl, refl, inl refl, beneath, free), refl)
  where
    -- in a volume with the one object, in limbo
    beneath : IsBeneath (t7.at 2).volume 1 0 → ⊥
    beneath (zero, e) = absurd (omega (arith, e))
    beneath (suc n, inl e) = absurd (omega (arith, e))
    beneath (suc n, inr (o, q, at, place, h)) = empty o at

    free : IsFree (t7.at 2).volume 1 0 x
    free g o q at place e m = at_case (g ≡ 1) (t6.at 2).volume.at 1 _ g (Some o) at (λ i s. i) (λ i s. empty o s)

    quiet : IsQuiet 9 (t7.at 2).volume
    quiet = quiet_written 9 fresh_maps 1 ((t7.at 2).volume.at 1) uid_p 8 (λ n r past at. empty r at)

unstages : Step t8 2 (Unstage uid_p) t9
unstages = (1, _, refl, refl, refl, refl)

skips_9 : Step t9 2 (Consume 150) t10
skips_9 = (omega arith, None, (_, Some first, refl, (first_is _ refl, refl), refl), refl)

skips_10 : Step t10 2 (Consume 150) t11
skips_10 = (omega arith, None, (_, Some first, refl, (first_is _ refl, refl), refl), refl)

-- ---- a tie

pub tie_is : Tie
tie_is = (t23, s0, third_wins _ refl, third_wins _ refl, refl, refl)
  where
    s22 : Run t22 (drop 22 tie) t23
    s22 = (t23, ((1, inl refl), held_by t22 2 third (third_wins _ refl).0 refl _, refl), refl)

    s20 : Run t20 (drop 20 tie) t23
    s20 = (t21, ((2, inl refl), held_by t20 1 third (third_wins _ refl).0 refl _, refl), (t22, refl, s22))

    -- the change of 1, which it holds until then
    later_held : IsRecordOf t19 1 later
    later_held = record_by t19.all (t19.at 1).known later (inr (inl refl)) refl refl

    s19 : Run t19 (drop 19 tie) t23
    s19 = (t20, ((2, inl refl), (Some later, (later_held, refl), record { file = refl; greater = refl }), refl), s20)

    s17 : Run t17 (drop 17 tie) t23
    s17 = (t18, refl, (t19, (inl (_, inl refl, (third_wins _ refl).0), refl), s19))

    first_at_two : IsRecordOf t16 2 first
    first_at_two = record_by t16.all (t16.at 2).known first (inl refl) refl refl

    s15 : Run t15 (drop 15 tie) t23
    s15 = (t16, ((omega arith, _, refl, (1, inr (_, refl, inr (_, refl, refl))), refl), refl), (t17, (omega arith, Some third, (_, Some first, refl, (first_at_two, refl), refl), refl), s17))

    s13 : Run t13 (drop 13 tie) t23
    s13 = (t14, ((omega arith, _, refl, (1, inr (_, refl, inr (_, refl, refl))), refl), refl), (t15, (omega arith, Some later, (_, Some first, refl, (first_is _ refl, refl), refl), refl), s15))

    s11 : Run t11 (drop 11 tie) t23
    s11 = (t12, refl, (t13, ((2, inl refl), held_by t12 1 first (first_is _ refl) refl _, refl), s13))

    s6 : Run t6 (drop 6 tie) t23
    s6 = (t7, makes, (t8, places, (t9, unstages, (t10, skips_9, (t11, skips_10, s11)))))

    s0 : Run begin tie t23
    s0 = (t1, pulls_1, (t2, pulls_2, (t3, refl, (t4, pulls_4, (t5, pulls_5, (t6, pulls_6, s6))))))

-- ---- what 2 does next

-- it has one record
only_first : (known : Versions) (u : Update) → IsRecord (first ∷ []) known u → u ≡ first
only_first known u r = elim r.among.0 [ inl e ↦ e | inr h ↦ absurd h ]

-- the file is to be made
makes_next : IsAnswerAt t6 2 (install_next.Do (install_step.Make uid_p))
makes_next = ((λ n r past at. empty r at), record { candidate = (first, first_shown _ refl, refl, λ f o at. empty o at); first = before })
  where
    before : (other : InstallStep) → IsCandidate (IsRecordOf t6 2) 2 (t6.at 2).volume (t6.at 2).staged (t6.at 2).consumed other → place_lt (place_of other) (2, uid_p) ≡ false
    before (install_step.Park uid) (f, o, p, at, id, place, n) = empty o at
    before (install_step.Erase uid) (f, o, u, at, id, q, is, gone) = empty o at
    before (install_step.Make uid) (u, s, id, n) =
        subst (λ z. place_lt (2, z) (2, uid_p) ≡ false) (sym (ap (λ v. v.uid) (only_first _ u (shown_record (IsRecordOf t6 2) u s))) ∙ id) refl
    before (install_step.Rewrite uid) (f, o, u, at, id, q, is, file, n) = empty o at
    before (install_step.Place uid) (f, o, u, at, id, limbo, s, is) = empty o at
    before (install_step.Unstage uid) (f, o, at, id, is) = empty o at
    before (install_step.Skip usn) c = refl

-- the file in its place
installed_file : Object
installed_file = record { fid = 1; place = Some (0, x); kind = File; bytes = []; sum = content_sum File []; born = 9; tag = Some uid_p; last_local = 0 }

-- nothing is left to do
drained_then : IsAnswerAt t11 2 install_next.Drained
unfolding installed_file
drained_then = record {
  quiet = λ n r past at. absurd (none_some r (sym (at_other (t7.at 2).volume.entry 10 _ n (λ e. omega (arith, past, e)) ∙ at_other fresh_maps.entry 9 _ n (λ e. omega (arith, past, e))) ∙ at));
  park = λ f o p at place. (
    first,
    first_shown _ refl,
    sym (ap (uid_of 2) (is f o at)),
    ap (λ z. parent_uid 2 (t11.at 2).volume z.0) (there f o p at place),
    ap (λ z. z.1) (there f o p at place),
  );
  erase = λ f o u at q id. ap (λ v. v.present) (only_first _ u q);
  make = λ u s. (1, installed_file, refl, sym (ap (λ v. v.uid) (only_first _ u (shown_record (IsRecordOf t11 2) u s))));
  rewrite = λ f o u at q id file. ap (λ z. z.sum) (is f o at) ∙ sym (ap (λ v. v.hash) (only_first _ u q));
  place = λ f o u at limbo s id. none_some (0, x) (sym limbo ∙ ap (λ z. z.place) (is f o at));
  unstage = λ uid sum f o staged at id e. none_some sum (subst (λ z. (t11.at 2).staged z ≡ Some sum) (sym id ∙ ap (uid_of 2) (is f o at)) staged);
  skip = refl;
}
  where
    -- it is the one object
    is : (f : ℕ) (o : Object) → IsAt (t11.at 2).volume f o → o ≡ installed_file
    is f o at = at_case (o ≡ installed_file) (t7.at 2).volume.at 1 _ f (Some o) at
        (λ i s. sym (some_is installed_file o s))
        (λ n s. empty o (sym (at_other fresh_maps.at 1 _ f n) ∙ s))

    there : (f : ℕ) (o : Object) (p : ℕ × List ℕ) → IsAt (t11.at 2).volume f o → o.place ≡ Some p → (0, x) ≡ p
    there f o p at place = some_is (0, x) p (sym (ap (λ z. z.place) (is f o at)) ∙ place)

pub installs : Installs
installs = (
  (t6, (t1, pulls_1, (t2, pulls_2, (t3, refl, (t4, pulls_4, (t5, pulls_5, (t6, pulls_6, refl)))))), makes_next),
  (
    t11,
    (t1, pulls_1, (t2, pulls_2, (t3, refl, (t4, pulls_4, (t5, pulls_5, (t6, pulls_6, (t7, makes, (t8, places, (t9, unstages, (t10, skips_9, (t11, skips_10, refl))))))))))),
    drained_then,
  ),
)

-- ---- a cycle of parents

pub parent_cycle_is : ParentCycle
parent_cycle_is known p q = (moved_p_is, moved_q_is, none_shown (IsRecord cycle known) (λ u r. by u r r.among.0))
  where
    moved_p_is : IsRecord cycle known moved_p
    moved_p_is = record_by cycle known moved_p (inr (inr (inl refl))) p refl

    moved_q_is : IsRecord cycle known moved_q
    moved_q_is = record_by cycle known moved_q (inr (inr (inr (inl refl)))) q refl

    by : (u : Update) → IsRecord cycle known u → In u cycle → u.parent ≢ root_uid
    by u r (inl e) root = r.unbeaten moved_p moved_p_is.among (subst (Beats moved_p) (sym e) (record { file = refl; greater = refl }))
    by u r (inr (inl e)) root = r.unbeaten moved_q moved_q_is.among (subst (Beats moved_q) (sym e) (record { file = refl; greater = refl }))
    by u r (inr (inr (inl e))) root = let bad : 10 ≡ 1 = ap (λ i. i.version) (ap (λ v. v.parent) (sym e) ∙ root) in absurd (omega (arith, bad))
    by u r (inr (inr (inr (inl e)))) root = let bad : 9 ≡ 1 = ap (λ i. i.version) (ap (λ v. v.parent) (sym e) ∙ root) in absurd (omega (arith, bad))
    by u r (inr (inr (inr (inr h)))) root = h

-- ---- what is due

pub due_rows : DueRows
due_rows = (refl, refl, refl, refl, refl)
