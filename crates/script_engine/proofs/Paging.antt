-- The pages and the files of a pull, one update after the other.
use Rattle.std.proofs.Common.{◌≡◌, ◌<◌, ◌≤◌, ◌+◌, ◌++◌, ◌⊎◌, ℕ, zero, suc, true, false, List, [], ◌∷◌, length, take, drop, get_or, refl, sym, ap, ◌∙◌, subst, arith, inl, inr, Option, Some, None, append_assoc, append-nil, MatchOption}
use Rattle.std.proofs.lemmas.List.{take-append-drop}
use Rattle.frs_base.specs.Options.{In}
use Rattle.win_order.specs.Order.{Beats, key_of}
use Rattle.win_order.specs.declared.update.Update.{Update}
use Rattle.record_db.specs.Records.{Covered, IsHeld, IsHeldOrBeaten}
use Rattle.record_db.proofs.Keys.{key_cut, not_below}
use Rattle.record_db.proofs.Sets.{in_after, in_append, in_before}
use Rattle.name_rules.specs.Tree.{is_file}
use Rattle.world_model.specs.World.{World, IsRecordOf}
use Rattle.world_model.specs.Events.{IsOfFile, Adopt, SendUpdate}
use Rattle.world_model.specs.Invariant.{SentIsKnown, VersionsAreMade}
use Rattle.world_model.specs.Rounds.{IsWanted}
use Rattle.world_model.specs.Runs.{Grows}
use Rattle.world_model.proofs.Growth.{grows_refl, grows_trans, stays, step_grows}
use Rattle.world_model.proofs.Puts.{no_smaller, record_stays}
use Rattle.world_model.proofs.Rounds.{adopted_is_held, held_stays, not_better}
use Rattle.world_model.proofs.Versions.{step_made, step_sent}
use Rattle.script_engine.specs.declared.refusal.Refusal.{Refusal}
use Rattle.script_engine.specs.declared.refusal.Refusal.TheVariants.{NotYet, VectorFull}
use Rattle.script_engine.specs.Pulling.{Gives, IsLastPending, IsTooMuch, Takes, TakesFiles, TakesPages, with_given}
use Rattle.script_engine.specs.Scene.{Scene}
use Rattle.script_engine.specs.Begun.{BeginsFiles, BeginsPages}
use Rattle.script_engine.specs.Pulls.{AreCovered, ArePages, AreTreated, CanTake}

-- ---- lists

drop_next : {X : Type 0} (xs : List X) (i : ℕ) (x : X) → i < length xs → x ≡ get_or xs i x → drop i xs ≡ x ∷ drop (suc i) xs
drop_next [] i x l e = absurd (omega (arith, l))
drop_next (y ∷ ys) zero x l e = ap (λ z. z ∷ ys) (sym e)
drop_next (y ∷ ys) (suc i) x l e = drop_next ys i x (omega (arith, l)) e

take_next : {X : Type 0} (xs : List X) (i : ℕ) (x : X) → i < length xs → x ≡ get_or xs i x → take (suc i) xs ≡ take i xs ++ x ∷ []
take_next [] i x l e = absurd (omega (arith, l))
take_next (y ∷ ys) zero x l e = ap (λ z. z ∷ []) (sym e)
take_next (y ∷ ys) (suc i) x l e = ap (λ zs. y ∷ zs) (take_next ys i x (omega (arith, l)) e)

-- what is left begins with the item at this place
pub drop_at : {X : Type 0} (xs : List X) (i : ℕ) (x : X) → i < length xs → x ≡ get_or xs i x → drop i xs ≡ x ∷ drop (i + 1) xs
drop_at xs i x l e = let next : suc i ≡ i + 1 = omega arith in drop_next xs i x l e ∙ ap (λ n. x ∷ drop n xs) next

pub take_at : {X : Type 0} (xs : List X) (i : ℕ) (x : X) → i < length xs → x ≡ get_or xs i x → take (i + 1) xs ≡ take i xs ++ x ∷ []
take_at xs i x l e = let next : i + 1 ≡ suc i = omega arith in ap (λ n. take n xs) next ∙ take_next xs i x l e

pub in_place : {X : Type 0} (xs : List X) (i : ℕ) (x : X) → i < length xs → x ≡ get_or xs i x → In x xs
in_place [] i x l e = absurd (omega (arith, l))
in_place (y ∷ ys) zero x l e = inl e
in_place (y ∷ ys) (suc i) x l e = inr (in_place ys i x (omega (arith, l)) e)

-- the first items and this one, or the first of one more
pub take_one : {X : Type 0} (xs : List X) (i : ℕ) (x : X) (rest : List X) → i < length xs → x ≡ get_or xs i x → take i xs ++ (x ∷ rest) ≡ take (i + 1) xs ++ rest
take_one xs i x rest l e = sym (append_assoc (take i xs) (x ∷ []) rest) ∙ ap (λ zs. zs ++ rest) (sym (take_at xs i x l e))

-- the first items, this one and those behind it are all
pub take_whole : {X : Type 0} (xs : List X) (i : ℕ) (x : X) → i < length xs → x ≡ get_or xs i x → take i xs ++ (x ∷ drop (i + 1) xs) ≡ xs
take_whole xs i x l e = ap (λ zs. take i xs ++ zs) (sym (drop_at xs i x l e)) ∙ take-append-drop i xs

pub take_end : {X : Type 0} (xs : List X) (i : ℕ) → length xs ≤ i → take i xs ≡ xs
take_end [] zero l = refl
take_end [] (suc i) l = refl
take_end (y ∷ ys) zero l = absurd (omega (arith, l))
take_end (y ∷ ys) (suc i) l = ap (λ zs. y ∷ zs) (take_end ys i (omega (arith, l)))

-- ---- pages

-- the first i updates were treated
pub record PagesSo (start : World) (p s : ℕ) (page : List Update) (i : ℕ) (w : World) (listed : List Update) (taken : ℕ) : Type 0 where
  pub goes_on : (rest more : List Update) (others : ℕ) (why : Option Refusal) (new : World) → TakesPages w p s rest more others why new → TakesPages start p s (take i page ++ rest) (listed ++ more) (taken + others) why new
  pub treated : AreTreated w p (take i page) listed
  pub grows : Grows start w

pub pages_begin : (w : World) (p s : ℕ) (page : List Update) → PagesSo w p s page 0 w [] 0
pages_begin w p s page = record {
  goes_on = λ rest more others why new t. subst (λ n. TakesPages w p s rest more n why new) (omega arith) t;
  treated = record { each = λ u here. absurd here; from = λ u here. absurd here };
  grows = grows_refl w;
}

-- one update more is listed, or held or beaten
treated_more : (w next : World) (p : ℕ) (page listed more : List Update) (i : ℕ) (u : Update) → i < length page → u ≡ get_or page i u → Grows w next → AreTreated w p (take i page) listed
    → ((v : Update) → In v listed → In v more) → ((v : Update) → In v more → In v listed ⊎ (v ≡ u)) → In u more ⊎ IsHeldOrBeaten (IsRecordOf next p) u → AreTreated next p (take (i + 1) page) more
treated_more w next p page listed more i u within is grows t keeps only mine = record {
  each = λ v here. elim (in_append v (take i page) (u ∷ []) (subst (In v) (take_at page i u within is) here)) [
    | inl old ↦ elim (t.each v old) [ inl a ↦ inl (keeps v a) | inr b ↦ inr (held_stays w next p v grows b) ]
    | inr (inl same) ↦ subst (λ x. In x more ⊎ IsHeldOrBeaten (IsRecordOf next p) x) (sym same) mine
    | inr (inr none) ↦ absurd none
  ];
  from = λ v here. subst (In v) (sym (take_at page i u within is)) (elim (only v here) [
    | inl old ↦ in_before v (take i page) (u ∷ []) (t.from v old)
    | inr same ↦ in_after v (take i page) (u ∷ []) (inl same)
  ]);
}

-- an update that isn't wanted is passed
pub pages_pass : (start : World) (p s : ℕ) (page : List Update) (i : ℕ) (w : World) (listed : List Update) (taken : ℕ) (u : Update) → PagesSo start p s page i w listed taken → i < length page → u ≡ get_or page i u
    → (IsWanted w p u → ⊥) → PagesSo start p s page (i + 1) w listed taken
pages_pass start p s page i w listed taken u so within is never = record {
  goes_on = λ rest more others why new t. subst (λ l. TakesPages start p s l (listed ++ more) (taken + others) why new) (take_one page i u rest within is) (so.goes_on (u ∷ rest) more others why new (inl (never, t)));
  treated = treated_more w w p page listed listed i u within is (grows_refl w) so.treated (λ v h. h) (λ v h. inl h) (inr (not_better w p u never));
  grows = so.grows;
}

-- a present file is listed
pub pages_list : (start : World) (p s : ℕ) (page : List Update) (i : ℕ) (w : World) (listed : List Update) (taken : ℕ) (u : Update) → PagesSo start p s page i w listed taken → i < length page → u ≡ get_or page i u
    → IsWanted w p u → is_file u ≡ true → PagesSo start p s page (i + 1) w (listed ++ u ∷ []) taken
pages_list start p s page i w listed taken u so within is wanted file = record {
  goes_on = λ rest more others why new t. subst (λ l. TakesPages start p s l ((listed ++ u ∷ []) ++ more) (taken + others) why new) (take_one page i u rest within is)
      (subst (λ l. TakesPages start p s (take i page ++ (u ∷ rest)) l (taken + others) why new) (sym (append_assoc listed (u ∷ []) more)) (so.goes_on (u ∷ rest) (u ∷ more) others why new (inr (inl (wanted, file, more, refl, t)))));
  treated = treated_more w w p page listed (listed ++ u ∷ []) i u within is (grows_refl w) so.treated (λ v h. in_before v listed (u ∷ []) h)
      (λ v h. elim (in_append v listed (u ∷ []) h) [ inl old ↦ inl old | inr (inl same) ↦ inr same | inr (inr none) ↦ absurd none ]) (inl (in_after u listed (u ∷ []) (inl refl)));
  grows = so.grows;
}

takes_grow : (w : World) (p s : ℕ) (u : Update) (new : World) → Takes w p s u new → Grows w new
takes_grow w p s u new (fits, mid, send, adopt) = grows_trans w mid new (step_grows w s (SendUpdate u) mid send) (step_grows mid p (Adopt u) new adopt)

-- another is taken
pub pages_take : (start : World) (p s : ℕ) (page : List Update) (i : ℕ) (w : World) (listed : List Update) (taken : ℕ) (u : Update) (next : World) → VersionsAreMade w → SentIsKnown w → PagesSo start p s page i w listed taken → i < length page
    → u ≡ get_or page i u → is_file u ≡ false → Takes w p s u next → PagesSo start p s page (i + 1) next listed (taken + 1)
pages_take start p s page i w listed taken u next made sent so within is file takes = record {
  goes_on = λ rest more others why new t. subst (λ l. TakesPages start p s l (listed ++ more) ((taken + 1) + others) why new) (take_one page i u rest within is)
      (subst (λ n. TakesPages start p s (take i page ++ (u ∷ rest)) (listed ++ more) n why new) (omega arith) (so.goes_on (u ∷ rest) more (others + 1) why new (inr (inr (inl (file, next, others, takes, t, refl))))));
  treated = treated_more w next p page listed listed i u within is (takes_grow w p s u next takes) so.treated (λ v h. h) (λ v h. inl h) (inr (
      let (fits, mid, send, adopt) = takes in
      adopted_is_held mid p u next (step_made w s (SendUpdate u) mid made sent send) (step_sent w s (SendUpdate u) mid sent send) adopt));
  grows = grows_trans start w next so.grows (takes_grow w p s u next takes);
}

-- one is refused
pub pages_cut : (start : World) (p s : ℕ) (page : List Update) (i : ℕ) (w : World) (listed : List Update) (taken : ℕ) (u : Update) (count : ℕ) → PagesSo start p s page i w listed taken → i < length page → u ≡ get_or page i u
    → is_file u ≡ false → IsTooMuch w p u count → TakesPages start p s page (listed ++ []) (taken + 0) (Some (VectorFull count)) w
pages_cut start p s page i w listed taken u count so within is file much =
    subst (λ l. TakesPages start p s l (listed ++ []) (taken + 0) (Some (VectorFull count)) w) (take_whole page i u within is)
    (so.goes_on (u ∷ drop (i + 1) page) [] 0 (Some (VectorFull count)) w (inr (inr (inr (file, count, much, refl, refl, refl, refl)))))

-- the first are treated
pub pages_first : (start : World) (p s : ℕ) (page : List Update) (i : ℕ) (w : World) (listed : List Update) (taken : ℕ) → PagesSo start p s page i w listed taken → BeginsPages start p s page w
pages_first start p s page i w listed taken so = (i, listed ++ [], taken + 0, subst (λ l. TakesPages start p s l (listed ++ []) (taken + 0) None w) (append-nil (take i page)) (so.goes_on [] [] 0 None w (refl, refl, refl, refl)))

-- all are treated
pub pages_end : (start : World) (p s : ℕ) (page : List Update) (i : ℕ) (w : World) (listed : List Update) (taken : ℕ) → PagesSo start p s page i w listed taken → length page ≤ i
    → TakesPages start p s page listed taken None w × AreTreated w p page listed × Grows start w
pages_end start p s page i w listed taken so past = (
  subst (λ n. TakesPages start p s page listed n None w) (omega arith)
      (subst (λ l. TakesPages start p s page l (taken + 0) None w) (append-nil listed)
      (subst (λ l. TakesPages start p s l (listed ++ []) (taken + 0) None w) (append-nil (take i page) ∙ take_end page i past) (so.goes_on [] [] 0 None w (refl, refl, refl, refl)))),
  subst (λ l. AreTreated w p l listed) (take_end page i past) so.treated,
  so.grows,
)

-- an update of the pages may be sent from then on
pub page_can : (start w : World) (p s : ℕ) (page : List Update) (u : Update) → VersionsAreMade start → ArePages start s page → Grows start w → In u page → IsWanted w p u → CanTake w p s u
page_can start w p s page u made pages grows here wanted =
    let alike = stays start w (start.at s).known (made.known s) grows in
    record { wanted = wanted; sent = inl ((start.at s).known, grows.vectors _ pages.sent, record_stays start w (start.at s).known alike u (pages.each u here)) }

-- ---- files

-- the first i files were treated
pub record FilesSo (start : Scene) (p s : ℕ) (files : List Update) (i : ℕ) (t : Scene) (taken : ℕ) : Type 0 where
  pub goes_on : (rest : List Update) (others : ℕ) (why : Option Refusal) (new : Scene) → TakesFiles t p s rest others why new → TakesFiles start p s (take i files ++ rest) (taken + others) why new
  pub held : (u : Update) → In u (take i files) → IsHeldOrBeaten (IsRecordOf t.world p) u
  pub grows : Grows start.world t.world

pub files_begin : (t : Scene) (p s : ℕ) (files : List Update) → FilesSo t p s files 0 t 0
files_begin t p s files = record {
  goes_on = λ rest others why new k. subst (λ n. TakesFiles t p s rest n why new) (omega arith) k;
  held = λ u here. absurd here;
  grows = grows_refl t.world;
}

held_more : (w : World) (p : ℕ) (files : List Update) (i : ℕ) (u : Update) → i < length files → u ≡ get_or files i u → ((v : Update) → In v (take i files) → IsHeldOrBeaten (IsRecordOf w p) v) → IsHeldOrBeaten (IsRecordOf w p) u
    → (v : Update) → In v (take (i + 1) files) → IsHeldOrBeaten (IsRecordOf w p) v
held_more w p files i u within is held mine v here = elim (in_append v (take i files) (u ∷ []) (subst (In v) (take_at files i u within is) here)) [
  | inl old ↦ held v old
  | inr (inl same) ↦ subst (IsHeldOrBeaten (IsRecordOf w p)) (sym same) mine
  | inr (inr none) ↦ absurd none
]

pub files_pass : (start : Scene) (p s : ℕ) (files : List Update) (i : ℕ) (t : Scene) (taken : ℕ) (u : Update) → FilesSo start p s files i t taken → i < length files → u ≡ get_or files i u
    → (IsWanted t.world p u → ⊥) → FilesSo start p s files (i + 1) t taken
files_pass start p s files i t taken u so within is never = record {
  goes_on = λ rest others why new k. subst (λ l. TakesFiles start p s l (taken + others) why new) (take_one files i u rest within is) (so.goes_on (u ∷ rest) others why new (inl (never, k)));
  held = held_more t.world p files i u within is so.held (not_better t.world p u never);
  grows = so.grows;
}

-- what the server has of the file in place of an update that it covers is no lower
first_held : (w : World) (p s : ℕ) (u v : Update) (next : World) → VersionsAreMade w → SentIsKnown w → Covered w.all (w.at s).known u → v.uid ≡ u.uid → IsRecordOf w s v → Takes w p s v next → IsHeldOrBeaten (IsRecordOf next p) u
first_held w p s u v next made sent covered file wins (fits, mid, send, adopt) =
    let below = not_below v u file (λ b. wins.unbeaten u covered b) in
    let (q, is, same, low) = adopted_is_held mid p v next (step_made w s (SendUpdate v) mid made sent send) (step_sent w s (SendUpdate v) mid sent send) adopt in
    (q, is, same ∙ file, no_smaller q v u low below)

pub files_take : (start : Scene) (p s : ℕ) (files : List Update) (i : ℕ) (t : Scene) (taken : ℕ) (u v : Update) (given : Option (List ℕ)) (next : World) → VersionsAreMade t.world → SentIsKnown t.world → FilesSo start p s files i t taken
    → i < length files → u ≡ get_or files i u → Covered t.world.all (t.world.at s).known u → IsWanted t.world p u → v.uid ≡ u.uid → IsOfFile t.world s v → Gives t s v given → Takes t.world p s v next
    → FilesSo start p s files (i + 1) (with_given t p v given next) (taken + 1)
files_take start p s files i t taken u v given next made sent so within is covered wanted file of_file gives takes = record {
  goes_on = λ rest others why new k. subst (λ l. TakesFiles start p s l ((taken + 1) + others) why new) (take_one files i u rest within is)
      (subst (λ n. TakesFiles start p s (take i files ++ (u ∷ rest)) n why new) (omega arith) (so.goes_on (u ∷ rest) (others + 1) why new (inr (inr (inl (v, given, next, others, wanted, file, of_file, gives, takes, k, refl))))));
  held = held_more next p files i u within is (λ x here. held_stays t.world next p x (takes_grow t.world p s v next takes) (so.held x here)) (first_held t.world p s u v next made sent covered file of_file.0 takes);
  grows = grows_trans start.world t.world next so.grows (takes_grow t.world p s v next takes);
}

-- a file is pending at the server
pub files_wait : (start : Scene) (p s : ℕ) (files : List Update) (i : ℕ) (t : Scene) (taken : ℕ) (u : Update) (usn : ℕ) → FilesSo start p s files i t taken → i < length files → u ≡ get_or files i u
    → IsWanted t.world p u → IsLastPending t.world s u.uid usn → TakesFiles start p s files (taken + 0) (Some (NotYet usn)) t
files_wait start p s files i t taken u usn so within is wanted last =
    subst (λ l. TakesFiles start p s l (taken + 0) (Some (NotYet usn)) t) (take_whole files i u within is) (so.goes_on (u ∷ drop (i + 1) files) 0 (Some (NotYet usn)) t (inr (inl (wanted, usn, last, refl, refl, refl))))

-- its version would make too many intervals
pub files_cut : (start : Scene) (p s : ℕ) (files : List Update) (i : ℕ) (t : Scene) (taken : ℕ) (u v : Update) (count : ℕ) → FilesSo start p s files i t taken → i < length files → u ≡ get_or files i u
    → IsWanted t.world p u → v.uid ≡ u.uid → IsOfFile t.world s v → IsTooMuch t.world p v count → TakesFiles start p s files (taken + 0) (Some (VectorFull count)) t
files_cut start p s files i t taken u v count so within is wanted file of_file much =
    subst (λ l. TakesFiles start p s l (taken + 0) (Some (VectorFull count)) t) (take_whole files i u within is)
    (so.goes_on (u ∷ drop (i + 1) files) 0 (Some (VectorFull count)) t (inr (inr (inr (v, count, wanted, file, of_file, much, refl, refl, refl)))))

-- the first are treated
pub files_first : (start : Scene) (p s : ℕ) (files : List Update) (i : ℕ) (t : Scene) (taken : ℕ) → FilesSo start p s files i t taken → BeginsFiles start p s files t
files_first start p s files i t taken so = (i, taken + 0, subst (λ l. TakesFiles start p s l (taken + 0) None t) (append-nil (take i files)) (so.goes_on [] 0 None t (refl, refl, refl)))

pub files_end : (start : Scene) (p s : ℕ) (files : List Update) (i : ℕ) (t : Scene) (taken : ℕ) → FilesSo start p s files i t taken → length files ≤ i
    → TakesFiles start p s files taken None t × ((u : Update) → In u files → IsHeldOrBeaten (IsRecordOf t.world p) u) × Grows start.world t.world
files_end start p s files i t taken so past = (
  subst (λ n. TakesFiles start p s files n None t) (omega arith)
      (subst (λ l. TakesFiles start p s l (taken + 0) None t) (append-nil (take i files) ∙ take_end files i past) (so.goes_on [] 0 None t (refl, refl, refl))),
  (λ u here. so.held u (subst (In u) (sym (take_end files i past)) here)),
  so.grows,
)

-- what it covers the server covers from then on
pub files_covered : (start w : World) (s : ℕ) (files : List Update) (u : Update) → AreCovered start s files → Grows start w → In u files → Covered w.all (w.at s).known u
files_covered start w s files u covered grows here = let (there, known) = covered u here in (grows.all u there, grows.known s u.gvsn known)

-- what the server has of a wanted file in place of an update that it covers may be taken
pub file_can : (w : World) (p s : ℕ) (u v : Update) → Covered w.all (w.at s).known u → IsWanted w p u → v.uid ≡ u.uid → IsOfFile w s v → CanTake w p s v
file_can w p s u v covered (held, is_held, better) file of_file = record {
  wanted = (held, subst (λ uid. IsHeld (Covered w.all (w.at p).known) uid held) (sym file) is_held, by held better);
  sent = inr of_file;
}
  where
    by : (held : Option Update) → MatchOption held (Unit {0}) (λ r. Beats u r) → MatchOption held (Unit {0}) (λ r. Beats v r)
    by None b = tt
    by (Some r) b = record { file = file ∙ b.file; greater = key_cut (key_of r) (key_of v) (key_of u) b.greater (not_below v u file (λ x. of_file.0.unbeaten u covered x)) }
