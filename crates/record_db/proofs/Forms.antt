-- What is staged of a file, and of the others.
use Rattle.std.proofs.Common.{◌≡◌, ◌⊎◌, ◌<◌, ◌≤◌, ◌+◌, ℕ, zero, suc, Bool, true, false, cond, List, [], ◌∷◌, ◌++◌, length, get_or, refl, sym, ap, ◌∙◌, subst, inl, inr, Option, Some, None, arith, option_map}
use Rattle.std.specs.Prelude.{find}
use Rattle.std.specs.List.{AllByRecursion, filter}
use Rattle.std.specs.Ordering.{is_eq, match_ordering}
use Rattle.std.specs.declared.cmp.Ordering.{Ordering}
use Rattle.std.specs.declared.cmp.Ordering.TheVariants.{Less, Equal, Greater}
use Rattle.std.specs.Map.{lookup, remove_entry}
use Rattle.std.specs.BTreeMap.{insert_entry, is_at}
use Rattle.std.specs.Option.{option_or}
use Rattle.std.proofs.lemmas.Bool.Decides.{nat_tests}
use Rattle.std.proofs.lemmas.List.Folds.{find-append}
use Rattle.frs_base.specs.Versions.{same_uid, uid_lt}
use Rattle.frs_base.specs.declared.version.Uid.{Uid}
use Rattle.record_db.specs.declared.staged.Staged.{Staged}
use Rattle.record_db.specs.Lists.{IsRisingBy}
use Rattle.frs_pmap.specs.Entries.{IsRising}
use Rattle.record_db.specs.Maps.{uid_cmp}
use Rattle.record_db.specs.Staged.{staged_of, staged_with, with_uid}
use Rattle.record_db.proofs.Keys.{same_uid_is, same_uid_refl, uid_total, uid_trans}
use Rattle.record_db.proofs.Maps.{one_uid, uid_above, uid_below, uid_level}

-- ---- the order of UIDs

lower_not_higher : (a b : Uid) → uid_lt a b ≡ true → uid_lt b a ≡ false
lower_not_higher a b lower = grind (arith, nat_tests)

not_lower_itself : (a : Uid) → uid_lt a a ≡ false
not_lower_itself a = grind (arith, nat_tests)

-- ---- filters

-- where the test finds, the filter always answers b
find_filter : {X : Type 0} (test p : X → Bool) (b : Bool) → ((x : X) → test x ≡ true → p x ≡ b) → (xs : List X) → find test (filter p xs) ≡ cond b (find test xs) None
find_filter test p true h [] = refl
find_filter test p false h [] = refl
find_filter {X = X} test p b h (x ∷ xs) = by (test x) (p x) refl refl (find_filter test p b h xs)
  where
    by : (t k : Bool) → test x ≡ t → p x ≡ k → find test (filter p xs) ≡ cond b (find test xs) None
        → find test (cond k (x ∷ filter p xs) (filter p xs)) ≡ cond b (cond t (Some x) (find test xs)) None
    by true true e f rest = let found : b ≡ true = sym (h x e) ∙ f in
        ap (λ t. cond t (Some x) (find test (filter p xs))) e ∙ sym (ap (λ t. cond t (Some x) None) found)
    by true false e f rest = let lost : b ≡ false = sym (h x e) ∙ f in
        rest ∙ ap (λ t. cond t (find test xs) None) lost ∙ sym (ap (λ t. cond t (Some x) None) lost)
    by false true e f rest = ap (λ t. cond t (Some x) (find test (filter p xs))) e ∙ rest
    by false false e f rest = rest

all_filter : {X : Type 0} (P : X → Type 0) (p : X → Bool) (xs : List X) → AllByRecursion P xs → AllByRecursion P (filter p xs)
all_filter P p [] a = tt
all_filter P p (x ∷ xs) a = by (p x) (all_filter P p xs a.1)
  where
    by : (k : Bool) → AllByRecursion P (filter p xs) → AllByRecursion P (cond k (x ∷ filter p xs) (filter p xs))
    by true rest = (a.0, rest)
    by false rest = rest

all_pass : {X : Type 0} (p : X → Bool) (xs : List X) → AllByRecursion (λ x. p x ≡ true) (filter p xs)
all_pass p [] = tt
all_pass p (x ∷ xs) = by (p x) refl (all_pass p xs)
  where
    by : (k : Bool) → p x ≡ k → AllByRecursion (λ x. p x ≡ true) (filter p xs) → AllByRecursion (λ x. p x ≡ true) (cond k (x ∷ filter p xs) (filter p xs))
    by true e rest = (e, rest)
    by false e rest = rest

all_map : {X : Type 0} (P Q : X → Type 0) → ((x : X) → P x → Q x) → (xs : List X) → AllByRecursion P xs → AllByRecursion Q xs
all_map P Q f [] a = tt
all_map P Q f (x ∷ xs) a = (f x a.0, all_map P Q f xs a.1)

all_append : {X : Type 0} (P : X → Type 0) (xs ys : List X) → AllByRecursion P xs → AllByRecursion P ys → AllByRecursion P (xs ++ ys)
all_append P [] ys a b = b
all_append P (x ∷ xs) ys a b = (a.0, all_append P xs ys a.1 b)

keeps_all : {X : Type 0} (p : X → Bool) (xs : List X) → AllByRecursion (λ x. p x ≡ true) xs → filter p xs ≡ xs
keeps_all p [] a = refl
keeps_all p (x ∷ xs) a = ap (λ t. cond t (x ∷ filter p xs) (filter p xs)) a.0 ∙ ap (λ l. x ∷ l) (keeps_all p xs a.1)

keeps_none : {X : Type 0} (p : X → Bool) (xs : List X) → AllByRecursion (λ x. p x ≡ false) xs → filter p xs ≡ []
keeps_none p [] a = refl
keeps_none p (x ∷ xs) a = ap (λ t. cond t (x ∷ filter p xs) (filter p xs)) a.0 ∙ keeps_none p xs a.1

-- ---- order

-- what is in order below and what is in order above, in order
rising_append : {X : Type 0} (uid_of : X → Uid) (xs ys : List X) → IsRisingBy uid_of xs → IsRisingBy uid_of ys
    → AllByRecursion (λ x. AllByRecursion (λ y. uid_lt (uid_of x) (uid_of y) ≡ true) ys) xs → IsRisingBy uid_of (xs ++ ys)
rising_append uid_of [] ys up up' below = up'
rising_append uid_of (x ∷ xs) ys up up' below = (all_append (λ y. uid_lt (uid_of x) (uid_of y) ≡ true) xs ys up.0 below.0, rising_append uid_of xs ys up.1 up' below.1)

rising_filter : {X : Type 0} (uid_of : X → Uid) (p : X → Bool) (xs : List X) → IsRisingBy uid_of xs → IsRisingBy uid_of (filter p xs)
rising_filter uid_of p [] up = tt
rising_filter uid_of p (x ∷ xs) up = by (p x) (rising_filter uid_of p xs up.1)
  where
    by : (k : Bool) → IsRisingBy uid_of (filter p xs) → IsRisingBy uid_of (cond k (x ∷ filter p xs) (filter p xs))
    by true rest = (all_filter (λ y. uid_lt (uid_of x) (uid_of y) ≡ true) p xs up.0, rest)
    by false rest = rest

abbrev lower : Uid → List Staged → List Staged
lower uid staged = filter (λ s. uid_lt s.uid uid) staged

abbrev higher : Uid → List Staged → List Staged
higher uid staged = filter (λ s. uid_lt uid s.uid) staged

-- what is lower than a file is lower than this, if this is the file's or higher
below : (uid : Uid) (staged rest : List Staged) → AllByRecursion (λ s. (uid_lt uid s.uid ≡ true) ⊎ (s.uid ≡ uid)) rest
    → AllByRecursion (λ x. AllByRecursion (λ y. uid_lt x.uid y.uid ≡ true) rest) (lower uid staged)
below uid staged rest a = all_map (λ x. uid_lt x.uid uid ≡ true) (λ x. AllByRecursion (λ y. uid_lt x.uid y.uid ≡ true) rest)
    (λ x low. all_map (λ s. (uid_lt uid s.uid ≡ true) ⊎ (s.uid ≡ uid)) (λ y. uid_lt x.uid y.uid ≡ true) (λ y h. by x.uid y.uid low h) rest a)
    (lower uid staged) (all_pass (λ s. uid_lt s.uid uid) staged)
  where
    by : (a b : Uid) → uid_lt a uid ≡ true → (uid_lt uid b ≡ true) ⊎ (b ≡ uid) → uid_lt a b ≡ true
    by a b low (inl high) = uid_trans a uid b low high
    by a b low (inr same) = subst (λ i. uid_lt a i ≡ true) (sym same) low

pub with_rising : (uid : Uid) (form : Option (List ℕ)) (staged : List Staged) → IsRisingBy (λ s. s.uid) staged → IsRisingBy (λ s. s.uid) (staged_with uid form staged)
with_rising uid form staged up = by form
  where
    above : AllByRecursion (λ s. (uid_lt uid s.uid ≡ true) ⊎ (s.uid ≡ uid)) (higher uid staged)
    above = all_map (λ s. uid_lt uid s.uid ≡ true) (λ s. (uid_lt uid s.uid ≡ true) ⊎ (s.uid ≡ uid)) (λ s h. inl h) (higher uid staged) (all_pass (λ s. uid_lt uid s.uid) staged)

    up_low : IsRisingBy (λ s. s.uid) (lower uid staged)
    up_low = rising_filter (λ s. s.uid) (λ s. uid_lt s.uid uid) staged up

    up_high : IsRisingBy (λ s. s.uid) (higher uid staged)
    up_high = rising_filter (λ s. s.uid) (λ s. uid_lt uid s.uid) staged up

    by : (form : Option (List ℕ)) → IsRisingBy (λ s. s.uid) (staged_with uid form staged)
    by None = rising_append (λ s. s.uid) (lower uid staged) (higher uid staged) up_low up_high (below uid staged (higher uid staged) above)
    by (Some f) =
        let s : Staged = record { uid = uid; form = f } in
        rising_append (λ s. s.uid) (lower uid staged) (s ∷ higher uid staged) up_low (all_pass (λ s. uid_lt uid s.uid) staged, up_high) (below uid staged (s ∷ higher uid staged) (inr refl, above))

-- ---- taking out

-- a lower file's form stays in front
lower_first : (uid : Uid) (s : Staged) (staged : List Staged) → uid_lt s.uid uid ≡ true → staged_with uid None (s ∷ staged) ≡ s ∷ staged_with uid None staged
lower_first uid s staged low =
    ap (λ t. cond t (s ∷ lower uid staged) (lower uid staged) ++ higher uid (s ∷ staged)) low
    ∙ ap (λ t. s ∷ lower uid staged ++ cond t (s ∷ higher uid staged) (higher uid staged)) (lower_not_higher s.uid uid low)

-- where all is of higher files, it stays
all_higher : (uid : Uid) (staged : List Staged) → AllByRecursion (λ s. uid_lt uid s.uid ≡ true) staged → staged_with uid None staged ≡ staged
all_higher uid staged a =
    ap (λ l. l ++ higher uid staged) (keeps_none (λ s. uid_lt s.uid uid) staged (all_map (λ s. uid_lt uid s.uid ≡ true) (λ s. uid_lt s.uid uid ≡ false) (λ s h. lower_not_higher uid s.uid h) staged a))
    ∙ keeps_all (λ s. uid_lt uid s.uid) staged a

-- the file's own form goes
own_goes : (uid : Uid) (s : Staged) (staged : List Staged) → same_uid s.uid uid ≡ true → AllByRecursion (λ v. uid_lt s.uid v.uid ≡ true) staged → staged_with uid None (s ∷ staged) ≡ staged
own_goes uid s staged same above =
    let is : s.uid ≡ uid = same_uid_is s.uid uid same in
    let not_low : uid_lt s.uid uid ≡ false = subst (λ i. uid_lt s.uid i ≡ false) is (not_lower_itself s.uid) in
    let not_high : uid_lt uid s.uid ≡ false = subst (λ i. uid_lt i s.uid ≡ false) is (not_lower_itself s.uid) in
    ap (λ t. cond t (s ∷ lower uid staged) (lower uid staged) ++ higher uid (s ∷ staged)) not_low
    ∙ ap (λ t. lower uid staged ++ cond t (s ∷ higher uid staged) (higher uid staged)) not_high
    ∙ all_higher uid staged (subst (λ i. AllByRecursion (λ v. uid_lt i v.uid ≡ true) staged) is above)

-- ---- forms of a map by their files

abbrev one : Uid × List ℕ → Staged
one e = record { uid = e.0; form = e.1 }

-- what is above a key stands above it
high_staged : (uid : Uid) (es : List (Uid × List ℕ)) → AllByRecursion (λ e. uid_cmp uid e.0 ≡ Less) es → AllByRecursion (λ s. uid_lt uid s.uid ≡ true) (staged_of es)
high_staged uid [] a = tt
high_staged uid (e ∷ es) a = (uid_below uid e.0 a.0, high_staged uid es a.1)

-- where all is of higher files, the form comes first
first_staged : (uid : Uid) (form : List ℕ) (staged : List Staged) → AllByRecursion (λ s. uid_lt uid s.uid ≡ true) staged → staged_with uid (Some form) staged ≡ record { uid = uid; form = form } ∷ staged
first_staged uid form staged a =
    let s : Staged = record { uid = uid; form = form } in
    ap (λ l. l ++ s ∷ higher uid staged) (keeps_none (λ s. uid_lt s.uid uid) staged (all_map (λ s. uid_lt uid s.uid ≡ true) (λ s. uid_lt s.uid uid ≡ false) (λ s h. lower_not_higher uid s.uid h) staged a))
    ∙ ap (λ l. s ∷ l) (keeps_all (λ s. uid_lt uid s.uid) staged a)

-- the form takes the place of the file's own
own_replaced : (uid : Uid) (form : List ℕ) (s : Staged) (staged : List Staged) → s.uid ≡ uid → AllByRecursion (λ v. uid_lt uid v.uid ≡ true) staged
    → staged_with uid (Some form) (s ∷ staged) ≡ record { uid = uid; form = form } ∷ staged
own_replaced uid form s staged is above =
    let n : Staged = record { uid = uid; form = form } in
    let not_low : uid_lt s.uid uid ≡ false = subst (λ i. uid_lt s.uid i ≡ false) is (not_lower_itself s.uid) in
    let not_high : uid_lt uid s.uid ≡ false = subst (λ i. uid_lt i s.uid ≡ false) is (not_lower_itself s.uid) in
    ap (λ t. cond t (s ∷ lower uid staged) (lower uid staged) ++ n ∷ higher uid (s ∷ staged)) not_low
    ∙ ap (λ t. lower uid staged ++ n ∷ cond t (s ∷ higher uid staged) (higher uid staged)) not_high
    ∙ first_staged uid form staged above

-- a lower file's form stays in front
lower_before : (uid : Uid) (form : List ℕ) (s : Staged) (staged : List Staged) → uid_lt s.uid uid ≡ true → staged_with uid (Some form) (s ∷ staged) ≡ s ∷ staged_with uid (Some form) staged
lower_before uid form s staged low =
    let n : Staged = record { uid = uid; form = form } in
    ap (λ t. cond t (s ∷ lower uid staged) (lower uid staged) ++ n ∷ higher uid (s ∷ staged)) low
    ∙ ap (λ t. s ∷ lower uid staged ++ n ∷ cond t (s ∷ higher uid staged) (higher uid staged)) (lower_not_higher s.uid uid low)

above_trans : (uid : Uid) (k : Uid) (es : List (Uid × List ℕ)) → uid_lt uid k ≡ true → AllByRecursion (λ s. uid_lt k s.uid ≡ true) (staged_of es) → AllByRecursion (λ s. uid_lt uid s.uid ≡ true) (staged_of es)
above_trans uid k es low a = all_map (λ s. uid_lt k s.uid ≡ true) (λ s. uid_lt uid s.uid ≡ true) (λ s h. uid_trans uid k s.uid low h) (staged_of es) a

pub find_kept : (uid : Uid) (es : List (Uid × List ℕ)) → lookup (is_at (uid_cmp uid)) es ≡ option_map (λ s. s.form) (find (λ s. same_uid s.uid uid) (staged_of es))
find_kept uid [] = refl
find_kept uid (e ∷ es) =
    ap (λ b. cond b (Some e.1) (lookup (is_at (uid_cmp uid)) es)) (uid_level uid e.0)
    ∙ ap (λ l. cond (same_uid e.0 uid) (Some e.1) l) (find_kept uid es) ∙ push (same_uid e.0 uid)
  where
    push : (b : Bool) → cond b (Some e.1) (option_map (λ s. s.form) (find (λ s. same_uid s.uid uid) (staged_of es))) ≡ option_map (λ s. s.form) (cond b (Some (one e)) (find (λ s. same_uid s.uid uid) (staged_of es)))
    push true = refl
    push false = refl

pub put_kept : (uid : Uid) (form : List ℕ) (es : List (Uid × List ℕ)) → IsRising uid_cmp es → staged_of (insert_entry uid_cmp es uid form) ≡ staged_with uid (Some form) (staged_of es)
put_kept uid form [] up = refl
put_kept uid form (e ∷ es) up = by (uid_cmp uid e.0) refl (put_kept uid form es up.1)
  where
    by : (r : Ordering) → uid_cmp uid e.0 ≡ r → staged_of (insert_entry uid_cmp es uid form) ≡ staged_with uid (Some form) (staged_of es)
        → staged_of (match_ordering r ((uid, form) ∷ e ∷ es) ((e.0, form) ∷ es) (e ∷ insert_entry uid_cmp es uid form)) ≡ staged_with uid (Some form) (one e ∷ staged_of es)
    by Less c rest =
        let low = uid_below uid e.0 c in
        sym (first_staged uid form (one e ∷ staged_of es) (low, above_trans uid e.0 es low (high_staged e.0 es up.0)))
    by Equal c rest =
        let is : e.0 ≡ uid = one_uid uid e.0 c in
        ap (λ (k : Uid). record { uid = k; form = form } ∷ staged_of es) is
        ∙ sym (own_replaced uid form (one e) (staged_of es) is (subst (λ (k : Uid). AllByRecursion (λ v. uid_lt k v.uid ≡ true) (staged_of es)) is (high_staged e.0 es up.0)))
    by Greater c rest = ap (λ l. one e ∷ l) rest ∙ sym (lower_before uid form (one e) (staged_of es) (uid_above uid e.0 c))

pub cut_kept : (uid : Uid) (es : List (Uid × List ℕ)) → IsRising uid_cmp es → staged_of (remove_entry (is_at (uid_cmp uid)) es) ≡ staged_with uid None (staged_of es)
cut_kept uid [] up = refl
cut_kept uid (e ∷ es) up = by (uid_cmp uid e.0) refl (cut_kept uid es up.1)
  where
    by : (r : Ordering) → uid_cmp uid e.0 ≡ r → staged_of (remove_entry (is_at (uid_cmp uid)) es) ≡ staged_with uid None (staged_of es)
        → staged_of (cond (is_eq r) es (e ∷ remove_entry (is_at (uid_cmp uid)) es)) ≡ staged_with uid None (one e ∷ staged_of es)
    by Less c rest =
        let low = uid_below uid e.0 c in
        let above = above_trans uid e.0 es low (high_staged e.0 es up.0) in
        ap (λ l. one e ∷ l) (rest ∙ all_higher uid (staged_of es) above) ∙ sym (all_higher uid (one e ∷ staged_of es) (low, above))
    by Equal c rest = sym (own_goes uid (one e) (staged_of es) (sym (uid_level uid e.0) ∙ ap is_eq c) (high_staged e.0 es up.0))
    by Greater c rest = ap (λ l. one e ∷ l) rest ∙ sym (lower_first uid (one e) (staged_of es) (uid_above uid e.0 c))

-- ---- what is found

abbrev pub form_in : List Staged → Uid → Option (List ℕ)
form_in staged uid = option_map (λ s. s.form) (find (λ s. same_uid s.uid uid) staged)

abbrev is_of : Uid → Staged → Bool
is_of uid s = same_uid s.uid uid

find_lower : (uid other : Uid) (b : Bool) (staged : List Staged) → uid_lt other uid ≡ b → find (is_of other) (lower uid staged) ≡ cond b (find (is_of other) staged) None
find_lower uid other b staged low = find_filter (is_of other) (λ s. uid_lt s.uid uid) b (λ s same. ap (λ i. uid_lt i uid) (same_uid_is s.uid other same) ∙ low) staged

find_higher : (uid other : Uid) (b : Bool) (staged : List Staged) → uid_lt uid other ≡ b → find (is_of other) (higher uid staged) ≡ cond b (find (is_of other) staged) None
find_higher uid other b staged high = find_filter (is_of other) (λ s. uid_lt uid s.uid) b (λ s same. ap (λ i. uid_lt uid i) (same_uid_is s.uid other same) ∙ high) staged

own_found : (uid : Uid) (form : Option (List ℕ)) (staged : List Staged) → form_in (staged_with uid form staged) uid ≡ form
own_found uid None staged = ap (option_map (λ s. s.form))
    (find-append (is_of uid) (lower uid staged) (higher uid staged)
    ∙ (λ i. option_or (find_lower uid uid false staged (not_lower_itself uid) i) (find_higher uid uid false staged (not_lower_itself uid) i)))
own_found uid (Some f) staged =
    let s : Staged = record { uid = uid; form = f } in
    ap (option_map (λ s. s.form))
    (find-append (is_of uid) (lower uid staged) (s ∷ higher uid staged)
    ∙ ap (λ o. option_or o (find (is_of uid) (s ∷ higher uid staged))) (find_lower uid uid false staged (not_lower_itself uid))
    ∙ ap (λ b. cond b (Some s) (find (is_of uid) (higher uid staged))) (same_uid_refl uid))

or_none : {X : Type 0} (o : Option X) → option_or o None ≡ o
or_none None = refl
or_none (Some x) = refl

not_same : (a b : Uid) → same_uid a b ≡ false → same_uid b a ≡ false
not_same a b other = grind (arith, nat_tests)

-- between the lower and the higher files there is none of another file
find_around : (uid other : Uid) (form : Option (List ℕ)) (staged : List Staged) → same_uid other uid ≡ false
    → find (is_of other) (staged_with uid form staged) ≡ option_or (find (is_of other) (lower uid staged)) (find (is_of other) (higher uid staged))
find_around uid other None staged apart = find-append (is_of other) (lower uid staged) (higher uid staged)
find_around uid other (Some f) staged apart =
    let s : Staged = record { uid = uid; form = f } in
    find-append (is_of other) (lower uid staged) (s ∷ higher uid staged)
    ∙ ap (λ b. option_or (find (is_of other) (lower uid staged)) (cond b (Some s) (find (is_of other) (higher uid staged)))) (not_same other uid apart)

other_found : (uid other : Uid) (form : Option (List ℕ)) (staged : List Staged) → same_uid other uid ≡ false → find (is_of other) (staged_with uid form staged) ≡ find (is_of other) staged
other_found uid other form staged apart = find_around uid other form staged apart ∙ by (uid_lt other uid) refl
  where
    by : (b : Bool) → uid_lt other uid ≡ b → option_or (find (is_of other) (lower uid staged)) (find (is_of other) (higher uid staged)) ≡ find (is_of other) staged
    by true low = (λ i. option_or (find_lower uid other true staged low i) (find_higher uid other false staged (lower_not_higher other uid low) i)) ∙ or_none (find (is_of other) staged)
    by false not_low = (λ i. option_or (find_lower uid other false staged not_low i) (find_higher uid other true staged (uid_total other uid not_low apart) i))

-- of the file the form is found, if there is one, and of another what was
pub found_with : (uid : Uid) (form : Option (List ℕ)) (staged : List Staged) (other : Uid) → form_in (staged_with uid form staged) other ≡ with_uid (form_in staged) uid form other
found_with uid form staged other = by (same_uid other uid) refl
  where
    by : (b : Bool) → same_uid other uid ≡ b → form_in (staged_with uid form staged) other ≡ cond b form (form_in staged other)
    by true same = subst (λ i. form_in (staged_with uid form staged) i ≡ form) (sym (same_uid_is other uid same)) (own_found uid form staged)
    by false apart = ap (option_map (λ s. s.form)) (other_found uid other form staged apart)
