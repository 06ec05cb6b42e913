-- Members that cover the same versions print the same trees, once they are drained.
use Rattle.std.proofs.Common.{◌≡◌, ◌≢◌, ◌<◌, ◌≤◌, ◌⊎◌, ◌++◌, ℕ, true, cond, not, List, [], ◌∷◌, length, map, refl, sym, ap, ◌∙◌, subst, arith, inl, inr, Option, Some, None, Result, Ok, Err}
use Rattle.std.specs.Prelude.{codes, decimal, flat_map}
use Rattle.std.specs.List.{AllByRecursion}
use Rattle.std.proofs.lemmas.Bool.{cases_eq, cases_lt}
use Rattle.frs_base.specs.Options.{In}
use Rattle.frs_base.specs.declared.kind.Kind.{Kind}
use Rattle.frs_base.specs.declared.kind.Kind.TheVariants.{File, Directory}
use Rattle.frs_base.specs.declared.sum.Sum.{Sum}
use Rattle.frs_base.specs.declared.version.Gvsn.{Gvsn}
use Rattle.hex.specs.Hex.{encode_lower}
use Rattle.win_order.specs.declared.update.Update.{Update}
use Rattle.vol_state.specs.declared.object.Object.{Object}
use Rattle.vol_state.specs.Maps.{Maps}
use Rattle.vol_state.specs.Places.{is_directory}
use Rattle.vol_state.specs.Sums.{no_sum}
use Rattle.vol_state.specs.Tables.{IsAt}
use Rattle.vol_state.specs.Valid.{IsSummed}
use Rattle.record_db.specs.Records.{IsRecord, plus}
use Rattle.record_db.proofs.Sets.{plus_cases, plus_new, plus_old}
use Rattle.name_rules.specs.Next.{IsDrained}
use Rattle.name_rules.specs.Recorded.{hash_of}
use Rattle.name_rules.specs.Tree.{IsVolumeRow, StandsAt}
use Rattle.name_rules.specs.declared.step.Step.{Step as InstallStep}
use Rattle.name_rules.specs.declared.step.Step.TheVariants.{Skip, Unstage}
use Rattle.name_rules.proofs.Showing.{AreSame, row_same, same_back}
use Rattle.world_model.specs.World.{Member, World, IsRecordOf, with_member}
use Rattle.world_model.specs.Events.{consumed_by, consumes, operated, unstaged_at}
use Rattle.world_model.specs.Invariant.{Invariant}
use Rattle.world_model.specs.Laws.{IsDrainedAt}
use Rattle.world_model.proofs.Changing.{at_same}
use Rattle.world_model.proofs.Due.{records_stay}
use Rattle.world_model.proofs.Facts.{none_some}
use Rattle.world_model.proofs.Growth.{grows_refl}
use Rattle.world_model.proofs.Headline.{equal_records}
use Rattle.world_model.proofs.Trees.{drained_trees}
use Rattle.script_engine.specs.declared.refusal.Refusal.{Refusal}
use Rattle.script_engine.specs.Printed.{printed}
use Rattle.script_engine.specs.Scene.{Scene, in_world}
use Rattle.script_engine.specs.Sound.{IsSoundWorld}
use Rattle.script_engine.specs.Trees.{IsByPath, IsTreeOf, Row, files_of, path_lt, path_word, row_text, row_words, sum_text, sums_text, tree_text}
use Rattle.script_engine.specs.Installing.{DoesStep, Drains, Installs, OperatesStep, end_of}
use Rattle.script_engine.specs.Equal.{AreAlike, DrainedPairsPrintAlike, DrainsCoverTheirOwn, DrainsKeepRecords, DrainsLeaveDrained, EqualRecordsPrintAlike, EqualTrees, FreshVolumesAreAlike, PrintAlike}
use Rattle.script_engine.proofs.Drained.{drains_pass}
use Rattle.script_engine.proofs.Installed.{installs_pass}
use Rattle.script_engine.proofs.Stepping.{drained_same}
use Rattle.script_engine.proofs.Lasting.{run_grows}
use Rattle.script_engine.proofs.Ordered.{path_apart, path_trans}
use Rattle.script_engine.proofs.Orders.{Sorted, sorted_one}
use Rattle.script_engine.proofs.Scenes.{run_keeps}

-- ---- images of lists

map_in : {X Y : Type 0} (f : X → Y) (x : X) (xs : List X) → In x xs → In (f x) (map f xs)
map_in f x [] h = absurd h
map_in f x (y ∷ ys) (inl e) = inl (ap f e)
map_in f x (y ∷ ys) (inr h) = inr (map_in f x ys h)

in_map : {X Y : Type 0} (f : X → Y) (z : Y) (xs : List X) → In z (map f xs) → (x : X) × In x xs × (z ≡ f x)
in_map f z [] h = absurd h
in_map f z (y ∷ ys) (inl e) = (y, inl refl, e)
in_map f z (y ∷ ys) (inr h) = let (x, k, e) = in_map f z ys h in (x, inr k, e)

-- ---- what is seen of rows

-- a path, and something of the object there
abbrev seen : {X : Type 0} → (Object → X) → Row → List (List ℕ) × X
seen f row = (row.path, f row.object)

-- each row is seen among the others
abbrev AreSeen : {X : Type 0} → (Object → X) → List Row → List Row → Type 0
AreSeen f a b = (r : Row) → In r a → (q : Row) × In q b × (r.path ≡ q.path) × (f r.object ≡ f q.object)

-- its path is the lower
abbrev Above : {X : Type 0} → List (List ℕ) × X → List (List ℕ) × X → Type 0
Above u v = path_lt u.0 v.0 ≡ true

seen_all : {X : Type 0} (f : Object → X) (r : Row) (rows : List Row) → AllByRecursion (λ o. path_lt r.path o.path ≡ true) rows → AllByRecursion (Above (seen f r)) (map (seen f) rows)
seen_all f r [] h = tt
seen_all f r (x ∷ xs) h = (h.0, seen_all f r xs h.1)

seen_sorted : {X : Type 0} (f : Object → X) (rows : List Row) → IsByPath rows → Sorted Above (map (seen f) rows)
seen_sorted f [] h = tt
seen_sorted f (r ∷ rows) h = (seen_all f r rows h.0, seen_sorted f rows h.1)

seen_in : {X : Type 0} (f : Object → X) (a b : List Row) → AreSeen f a b → (v : List (List ℕ) × X) → In v (map (seen f) a) → In v (map (seen f) b)
seen_in f a b h v i =
    let (r, k, e) = in_map (seen f) v a i in
    let (q, l, path, same) = h r k in
    let is : v ≡ seen f q = e ∙ (λ j. (path j, same j)) in
    subst (λ z. In z (map (seen f) b)) (sym is) (map_in (seen f) q b l)

-- rows in order of which each is seen among the others look the same
seen_one : {X : Type 0} (f : Object → X) (a b : List Row) → IsByPath a → IsByPath b → AreSeen f a b → AreSeen f b a → map (seen f) a ≡ map (seen f) b
seen_one f a b up up' to back = sorted_one Above (λ x y z p q. path_trans x.0 y.0 z.0 p q) (λ x p. path_apart x.0 x.0 p refl) (map (seen f) a) (map (seen f) b) (seen_sorted f a up) (seen_sorted f b up')
    (seen_in f a b to) (seen_in f b a back)

-- ---- what is printed of it

-- the line of an object of this kind, at a path, with so many bytes
abbrev line_by : Kind → List (List ℕ) → ℕ → List ℕ
line_by Directory path n = printed (codes "d" ∷ path_word path ∷ [])
line_by File path n = printed (codes "f" ∷ path_word path ∷ decimal n ∷ [])

-- the line of what is seen of a row
abbrev line_of : List (List ℕ) × (Kind × ℕ) → List ℕ
line_of v = line_by v.1.0 v.0 v.1.1

-- the kind and the length
abbrev length_seen : Object → Kind × ℕ
length_seen o = (o.kind, length o.bytes)

row_line : (kind : Kind) (path : List (List ℕ)) (bytes : List ℕ) → printed (row_words kind path bytes) ≡ line_by kind path (length bytes)
row_line Directory path bytes = refl
row_line File path bytes = refl

-- what `tree` prints of what is seen of rows
abbrev tree_of : List (List (List ℕ) × (Kind × ℕ)) → List ℕ
tree_of [] = printed (codes "tree" ∷ codes "empty" ∷ [])
tree_of (v ∷ vs) = flat_map line_of (v ∷ vs)

lines_seen : (rows : List Row) → flat_map row_text rows ≡ flat_map line_of (map (seen length_seen) rows)
lines_seen [] = refl
lines_seen (row ∷ rows) = λ i. row_line row.object.kind row.path row.object.bytes i ++ lines_seen rows i

tree_seen : (rows : List Row) → tree_text rows ≡ tree_of (map (seen length_seen) rows)
tree_seen [] = refl
tree_seen (row ∷ rows) = lines_seen (row ∷ rows)

-- the kind and the sum, none of a directory
abbrev sum_seen : Object → Kind × Sum
sum_seen o = (o.kind, hash_of o)

-- the line of a file's sum, before other lines; a directory has none
abbrev before : Kind → List (List ℕ) → Sum → List (List ℕ) → List (List ℕ)
before Directory path sum rest = rest
before File path sum rest = printed (encode_lower sum.0 ∷ path_word path ∷ []) ∷ rest

-- the lines of the sums that are seen
abbrev sum_lines : List (List (List ℕ) × (Kind × Sum)) → List (List ℕ)
sum_lines [] = []
sum_lines (v ∷ vs) = before v.1.0 v.0 v.1.1 (sum_lines vs)

-- what `sums` prints of such lines
abbrev sums_of : List (List ℕ) → List ℕ
sums_of [] = printed (codes "sums" ∷ codes "empty" ∷ [])
sums_of (line ∷ lines) = flat_map (λ text. text) (line ∷ lines)

files_seen : (rows : List Row) → map sum_text (files_of rows) ≡ sum_lines (map (seen sum_seen) rows)
files_seen [] = refl
files_seen (row ∷ rows) = by row.object.kind (files_seen rows)
  where
    by : (kind : Kind) → map sum_text (files_of rows) ≡ sum_lines (map (seen sum_seen) rows)
        → map sum_text (cond (not (is_directory kind)) (row ∷ files_of rows) (files_of rows))
        ≡ before kind row.path (cond (is_directory kind) no_sum row.object.sum) (sum_lines (map (seen sum_seen) rows))
    by Directory more = more
    by File more = λ i. sum_text row ∷ more i

sums_seen : (rows : List Row) → sums_text rows ≡ sums_of (map sum_text rows)
sums_seen [] = refl
sums_seen (row ∷ rows) = flat (row ∷ rows)
  where
    flat : (rows : List Row) → flat_map sum_text rows ≡ flat_map (λ text. text) (map sum_text rows)
    flat [] = refl
    flat (row ∷ rows) = λ i. sum_text row ++ flat rows i

-- ---- the rows of trees

-- what stands at a path is there
stands_there : (m : Maps) (parent : ℕ) (path : List (List ℕ)) (o : Object) → StandsAt m parent path o → (fid : ℕ) × IsAt m fid o
stands_there m parent [] o h = absurd h
stands_there m parent (name ∷ []) o (fid, at, place) = (fid, at)
stands_there m parent (name ∷ next ∷ path) o (fid, d, at, place, more) = stands_there m fid (next ∷ path) o more

-- what is reached in one is reached in the other, with its kind and sum
abbrev AreReached : Maps → Maps → Type 0
AreReached m n = (path : List (List ℕ)) (kind : Kind) (sum : Sum) → IsVolumeRow m path kind sum → IsVolumeRow n path kind sum

-- each row has an object of its kind and sum at its path in the other
abbrev HasTwin : Maps → List Row → Row → Type 0
HasTwin n b r = (q : Row) × In q b × (r.path ≡ q.path) × (r.object.kind ≡ q.object.kind) × (hash_of r.object ≡ hash_of q.object)

twin : (m n : Maps) (a b : List Row) → AreReached m n → IsTreeOf m a → IsTreeOf n b → (r : Row) → In r a → HasTwin n b r
twin m n a b reached t u r h =
    let (q, stands, kind, sum) = reached r.path r.object.kind (hash_of r.object) (r.object, t.each r h, refl, refl) in
    (record { path = r.path; object = q }, u.whole r.path q stands, refl, kind, sum)

-- ---- the law

sums_seen_one : (m n : Maps) (a b : List Row) → AreReached m n → AreReached n m → IsTreeOf m a → IsTreeOf n b → map (seen sum_seen) a ≡ map (seen sum_seen) b
sums_seen_one m n a b to back t u = seen_one sum_seen a b t.ordered u.ordered (among m n a b to t u) (among n m b a back u t)
  where
    among : (m n : Maps) (a b : List Row) → AreReached m n → IsTreeOf m a → IsTreeOf n b → AreSeen sum_seen a b
    among m n a b reached t u r h = let (q, k, path, kind, sum) = twin m n a b reached t u r h in (q, k, path, λ i. (kind i, sum i))

pub sums_one : (m n : Maps) (a b : List Row) → AreReached m n → AreReached n m → IsTreeOf m a → IsTreeOf n b → sums_text (files_of a) ≡ sums_text (files_of b)
sums_one m n a b to back t u =
    sums_seen (files_of a) ∙ ap sums_of (files_seen a ∙ ap sum_lines (sums_seen_one m n a b to back t u) ∙ sym (files_seen b)) ∙ sym (sums_seen (files_of b))

-- each object has the sum of its contents
abbrev AreSummed : Maps → Type 0
AreSummed m = (fid : ℕ) (o : Object) → IsAt m fid o → IsSummed o

-- objects of one kind and sum, where files of one sum have one length, have one length
lengths_one : (m n : Maps) (o q : Object) (f g : ℕ) → AreAlike m n → AreSummed m → AreSummed n → IsAt m f o → IsAt n g q → o.kind ≡ q.kind → hash_of o ≡ hash_of q → length o.bytes ≡ length q.bytes
lengths_one m n o q f g alike h h' at at' same sums = by o.kind refl
  where
    by : (kind : Kind) → o.kind ≡ kind → length o.bytes ≡ length q.bytes
    by Directory e =
        let here : is_directory o.kind ≡ true = ap is_directory e in
        let there : is_directory q.kind ≡ true = ap is_directory (sym same ∙ e) in
        ap length ((h f o at).bare here ∙ sym ((h' g q at').bare there))
    by File e =
        let here : hash_of o ≡ o.sum = ap (λ kind. cond (is_directory kind) no_sum o.sum) e in
        let there : hash_of q ≡ q.sum = ap (λ kind. cond (is_directory kind) no_sum q.sum) (sym same ∙ e) in
        alike f g o q at at' e (sym same ∙ e) (sym here ∙ sums ∙ there)

alike_back : (m n : Maps) → AreAlike m n → AreAlike n m
alike_back m n alike f g o q at at' kind kind' same = sym (alike g f q o at' at kind' kind (sym same))

tree_seen_one : (m n : Maps) (a b : List Row) → AreAlike m n → AreSummed m → AreSummed n → AreReached m n → AreReached n m → IsTreeOf m a → IsTreeOf n b → map (seen length_seen) a ≡ map (seen length_seen) b
tree_seen_one m n a b alike h h' to back t u =
    seen_one length_seen a b t.ordered u.ordered (among m n a b alike h h' to t u) (among n m b a (alike_back m n alike) h' h back u t)
  where
    among : (m n : Maps) (a b : List Row) → AreAlike m n → AreSummed m → AreSummed n → AreReached m n → IsTreeOf m a → IsTreeOf n b → AreSeen length_seen a b
    among m n a b alike h h' reached t u r k =
        let (q, l, path, kind, sum) = twin m n a b reached t u r k in
        let (f, at) = stands_there m 0 r.path r.object (t.each r k) in
        let (g, at') = stands_there n 0 q.path q.object (u.each q l) in
        let long = lengths_one m n r.object q.object f g alike h h' at at' kind sum in
        (q, l, path, λ i. (kind i, long i))

-- of worlds that keep the invariant
records_alike : (s new : Scene) → Invariant s.world → Invariant new.world → (i j : ℕ) → AreSame (IsRecordOf s.world i) (IsRecordOf new.world j) → IsDrainedAt s.world i → IsDrainedAt new.world j
    → PrintAlike s i new j
records_alike s new h later i j same drained drained' = (
  λ a b (rows, is, text) (rows', is', text'). text ∙ sums_one (s.world.at i).volume (new.world.at j).volume rows rows' to back is is' ∙ sym text',
  λ alike a b (rows, is, text) (rows', is', text').
      let one = tree_seen_one (s.world.at i).volume (new.world.at j).volume rows rows' alike (h.sums.objects i) (later.sums.objects j) to back is is' in
      text ∙ (tree_seen rows ∙ ap tree_of one ∙ sym (tree_seen rows')) ∙ sym text',
)
  where
    to : AreReached (s.world.at i).volume (new.world.at j).volume
    to path kind sum row = (drained_trees new.world later j drained' path kind sum).1 (row_same same path kind sum ((drained_trees s.world h i drained path kind sum).0 row))

    back : AreReached (new.world.at j).volume (s.world.at i).volume
    back path kind sum row = (drained_trees s.world h i drained path kind sum).1 (row_same (same_back same) path kind sum ((drained_trees new.world later j drained' path kind sum).0 row))

pub records_print_alike : EqualRecordsPrintAlike
records_print_alike s new h later i j same drained drained' =
    records_alike s new h.world.invariant later.world.invariant i j (record { to = λ u. (same u).0; back = λ u. (same u).1 }) drained drained'

pub vectors_print_alike : EqualTrees
vectors_print_alike s more said new h all run i j same drained drained' =
    let later = run_keeps s more said new h all run in
    records_print_alike s new h later i j (equal_records s.world new.world h.world.invariant.versions (run_grows s more said new h all run) i j same) drained drained'

pub fresh_alike : FreshVolumesAreAlike
fresh_alike m f g o q at at' kind kind' same = absurd (none_some o at)

-- ---- drains

pub drain_drains : DrainsLeaveDrained
drain_drains s d [] new (drained, is) = subst (λ w. IsDrainedAt w d) (sym is) drained
drain_drains s d (step ∷ steps) new (mid, first, rest) = drain_drains (in_world s mid) d steps new rest

-- a member comes to this, where all updates are these then: its records stay, and it covers what it covered and what it consumed since
record Keeps (w : World) (d : ℕ) (all : List Update) (x : Member) : Type 0 where
  records : AreSame (IsRecordOf w d) (IsRecord all x.known)
  more : (w.at d).consumed ≤ x.consumed
  only : (g : Gvsn) → x.known g ≡ true → ((w.at d).known g ≡ true) ⊎ ((g.db ≡ d) × ((w.at d).consumed ≤ g.version) × (g.version < x.consumed))
  old : (g : Gvsn) → (w.at d).known g ≡ true → x.known g ≡ true
  passed : (g : Gvsn) → g.db ≡ d → (w.at d).consumed ≤ g.version → g.version < x.consumed → x.known g ≡ true

-- it does so from one world to another
abbrev KeepsIn : World → ℕ → World → Type 0
KeepsIn w d new = Keeps w d new.all (new.at d)

keeps_by : (w : World) (d : ℕ) (x : Member) (new : World) → new.at d ≡ x → Keeps w d new.all x → KeepsIn w d new
keeps_by w d x new is k = subst (Keeps w d new.all) (sym is) k

-- a member that covers as much, and has consumed as much
keeps_as : (w : World) (d : ℕ) (x : Member) → (w.at d).known ≡ x.known → (w.at d).consumed ≡ x.consumed → Keeps w d w.all x
keeps_as w d x known consumed = record {
  records = record { to = λ u r. subst (λ k. IsRecord w.all k u) known r; back = λ u r. subst (λ k. IsRecord w.all k u) (sym known) r };
  more = omega (arith, consumed);
  only = λ g t. inl (ap (λ k. k g) known ∙ t);
  old = λ g t. ap (λ k. k g) (sym known) ∙ t;
  passed = λ g own low high. absurd (omega (arith, low, high, consumed));
}

keeps_itself : (w : World) (d : ℕ) → KeepsIn w d w
keeps_itself w d = keeps_as w d (w.at d) refl refl

keeps_trans : (w : World) (d : ℕ) (mid new : World) → KeepsIn w d mid → KeepsIn mid d new → KeepsIn w d new
keeps_trans w d mid new p q = record {
  records = record { to = λ u r. q.records.to u (p.records.to u r); back = λ u r. p.records.back u (q.records.back u r) };
  more = let a = p.more in let b = q.more in omega (arith, a, b);
  only = λ g t. elim (q.only g t) [
    | inl k ↦ elim (p.only g k) [ inl old ↦ inl old | inr (own, low, high) ↦ inr (own, low, (let b = q.more in omega (arith, high, b))) ]
    | inr (own, low, high) ↦ inr (own, (let a = p.more in omega (arith, low, a)), high)
  ];
  old = λ g t. q.old g (p.old g t);
  passed = λ g own low high. elim (cases_lt g.version (mid.at d).consumed) [
    | inl below ↦ q.old g (p.passed g own low below)
    | inr past ↦ q.passed g own past high
  ];
}

-- so the world does where it changes nothing but the member
keeps_member : (w : World) (d : ℕ) (x : Member) (new : World) → new ≡ with_member w d x → Keeps w d w.all x → KeepsIn w d new
keeps_member w d x new is k = subst (KeepsIn w d) (sym is) (keeps_by w d x (with_member w d x) (at_same w.at d x) k)

keeps_skip : (w : World) (d : ℕ) → Invariant w → Keeps w d (w.all ++ []) (consumed_by d None (w.at d))
keeps_skip w d h = record {
  records = records_stay w d h;
  more = omega arith;
  only = λ g t. elim (plus_cases (w.at d).known (record { db = d; version = (w.at d).consumed }) g t) [
    | inl e ↦ inr (ap (λ (z : Gvsn). z.db) e, (let at = ap (λ (z : Gvsn). z.version) e in omega (arith, at)), (let at = ap (λ (z : Gvsn). z.version) e in omega (arith, at)))
    | inr old ↦ inl old
  ];
  old = λ g t. plus_old (w.at d).known (record { db = d; version = (w.at d).consumed }) g t;
  passed = λ g own low high. let at : g.version ≡ (w.at d).consumed = omega (arith, low, high) in
      let is : g ≡ record { db = d; version = (w.at d).consumed } = λ i. record { db = own i; version = at i } in
      subst (λ z. plus (w.at d).known (record { db = d; version = (w.at d).consumed }) z ≡ true) (sym is) (plus_new (w.at d).known (record { db = d; version = (w.at d).consumed }));
}

operates_keep : (s : Scene) (d : ℕ) (step : InstallStep) (new : World) → OperatesStep s d step new → KeepsIn s.world d new
operates_keep s d step new (op, of_step, gives, (quiet, due, ok, is)) = keeps_member s.world d (operated d op (s.world.at d)) new is (keeps_as s.world d (operated d op (s.world.at d)) refl refl)

does_keep : (s : Scene) (d : ℕ) (step : InstallStep) (new : World) → Invariant s.world → DoesStep s d step new → KeepsIn s.world d new
does_keep s d (Unstage uid) new h (fid, o, at, id, staged, is) = keeps_member s.world d (unstaged_at uid (s.world.at d)) new is (keeps_as s.world d (unstaged_at uid (s.world.at d)) refl refl)
does_keep s d (Skip usn) new h (same, fits, records, is) =
    subst (KeepsIn s.world d) (sym is) (keeps_by s.world d (consumed_by d None (s.world.at d)) (consumes s.world d None) (at_same s.world.at d (consumed_by d None (s.world.at d))) (keeps_skip s.world d h))
does_keep s d step new h operated = operates_keep s d step new operated

installs_keep : (s : Scene) (d : ℕ) (outcome : Result (Option InstallStep) Refusal) (new : World) → Invariant s.world → Installs s d outcome new → KeepsIn s.world d new
installs_keep s d (Ok None) new h (drained, is) = subst (KeepsIn s.world d) (sym is) (keeps_itself s.world d)
installs_keep s d (Ok (Some step)) new h (answer, does) = does_keep s d step new h does
installs_keep s d (Err why) new h (stopped, is) = subst (KeepsIn s.world d) (sym is) (keeps_itself s.world d)

drains_keep : (s : Scene) (d : ℕ) (steps : List InstallStep) (why : Option Refusal) (new : World) → IsSoundWorld s.world → Drains s d steps why new → KeepsIn s.world d new
drains_keep s d [] why new h end = installs_keep s d (end_of why) new h.invariant end
drains_keep s d (step ∷ steps) why new h (mid, first, rest) =
    let p = installs_pass s d (Ok (Some step)) mid h first in
    keeps_trans s.world d mid new (installs_keep s d (Ok (Some step)) mid h.invariant first) (drains_keep (in_world s mid) d steps why new p.sound rest)

pub drains_cover : DrainsCoverTheirOwn
drains_cover s d steps why new h drains g =
    let k = drains_keep s d steps why new h.world drains in
    (k.only g, λ is. elim is [ inl old ↦ k.old g old | inr (own, low, high) ↦ k.passed g own low high ])

-- every member has the records that it had
drains_same : (s : Scene) (d : ℕ) (steps : List InstallStep) (why : Option Refusal) (new : World) → IsSoundWorld s.world → Drains s d steps why new
    → (j : ℕ) → AreSame (IsRecordOf s.world j) (IsRecordOf new j)
drains_same s d steps why new h drains j = by (cases_eq j d)
  where
    by : (j ≡ d) ⊎ (j ≢ d) → AreSame (IsRecordOf s.world j) (IsRecordOf new j)
    by (inl e) = subst (λ k. AreSame (IsRecordOf s.world k) (IsRecordOf new k)) (sym e) (drains_keep s d steps why new h drains).records
    by (inr n) =
        let p = drains_pass s d steps why new h drains in
        let alike = equal_records s.world new h.invariant.versions p.grows j j (λ g. ap (λ (x : Member). x.known g) (p.others j n)) in
        record { to = λ u. (alike u).0; back = λ u. (alike u).1 }

pub drains_keep_records : DrainsKeepRecords
drains_keep_records s d steps why new h drains j u = let same = drains_same s d steps why new h.world drains j in (same.to u, same.back u)

-- ---- two drains

-- it stays drained while another is drained
stays_drained : (s : Scene) (i j : ℕ) (steps : List InstallStep) (new : World) → IsSoundWorld s.world → IsDrainedAt s.world i → Drains s j steps None new → IsDrainedAt new i
stays_drained s i j steps new h drained drains = by (cases_eq i j)
  where
    by : (i ≡ j) ⊎ (i ≢ j) → IsDrainedAt new i
    by (inl e) = subst (IsDrainedAt new) (sym e) (drain_drains s j steps new drains)
    by (inr n) =
        let is = (drains_pass s j steps None new h drains).others i n in
        subst (λ (x : Member). IsDrained (IsRecordOf new i) i x.volume x.staged x.consumed) is
        (drained_same (drains_same s j steps None new h drains i) i (s.world.at i).volume (s.world.at i).staged (s.world.at i).consumed drained)

same_trans : {R S T : Update → Type 0} → AreSame R S → AreSame S T → AreSame R T
same_trans p q = record { to = λ u r. q.to u (p.to u r); back = λ u r. p.back u (q.back u r) }

pub pairs_print_alike : DrainedPairsPrintAlike
pairs_print_alike s i j first second mid new h same drains drains' =
    let p = drains_pass s i first None mid h.world drains in
    let q = drains_pass (in_world s mid) j second None new p.sound drains' in
    let equal = equal_records s.world s.world h.world.invariant.versions (grows_refl s.world) i j same in
    records_alike (in_world s new) (in_world s new) q.sound.invariant q.sound.invariant i j
    (same_trans (same_back (stay p.sound i)) (same_trans (record { to = λ u. (equal u).0; back = λ u. (equal u).1 }) (stay p.sound j)))
    (stays_drained (in_world s mid) i j second new p.sound (drain_drains s i first mid drains) drains') (drain_drains (in_world s mid) j second new drains')
  where
    stay : IsSoundWorld mid → (k : ℕ) → AreSame (IsRecordOf s.world k) (IsRecordOf new k)
    stay sound k = same_trans (drains_same s i first None mid h.world drains k) (drains_same (in_world s mid) j second None new sound drains' k)
