-- Hints, chained by their keys.
use Rattle.std.proofs.Common.{◌≡◌, ◌+◌, ◌-◌, ◌<◌, ◌≤◌, ◌⊎◌, inl, inr, ⊎_elim, ℕ, zero, suc, Bool, true, false, eqb, List, [], ◌∷◌, ◌++◌, length, take, get_or, set, Option, Some, refl, sym, ap, ◌∙◌, subst, arith}
use Rattle.std.proofs.lemmas.Bool.Decides.{nat_tests}
use Rattle.std.proofs.lemmas.Bool.{cases_lt}
use Rattle.std.proofs.lemmas.List.{length-append}
use Rattle.std.specs.Prelude.{IsSome, if◌then◌else◌}
use Rattle.std.specs.HashMap.{HashMap}
use Rattle.vol_state.specs.declared.hints.Link.{Link}
use Rattle.frs_base.specs.Options.{In}
use Rattle.vol_state.specs.Hints.{last_with, after_later, AreChained, IsThreaded, newest_of, newest_after, redirected, no_link, Leads, KeepsBut, head_of, head_at}
use Rattle.vol_state.proofs.Climbing.{by_cases}

-- ---- the last link with a key

plus : (n : ℕ) → n + 1 ≡ suc n
plus n = omega arith

after_plus : (n own key : ℕ) → after_later (n + 1) own key ≡ suc n + 1
after_plus n own key = rw (plus n) (rw (plus (suc n)) refl)

pub last_push : (key : ℕ) (ls : List Link) (l : Link) → last_with key (ls ++ l ∷ []) ≡ (if eqb l.key key then length ls + 1 else last_with key ls)
last_push key [] l = refl
last_push key (x ∷ xs) l = ap (λ n. after_later n x.key key) (last_push key xs l) ∙ go (eqb l.key key)
  where
    go : (b : Bool) → after_later (if b then length xs + 1 else last_with key xs) x.key key ≡ (if b then length (x ∷ xs) + 1 else last_with key (x ∷ xs))
    go true = after_plus (length xs) x.key key
    go false = refl

pub last_within : (key : ℕ) (ls : List Link) → last_with key ls ≤ length ls
last_within key [] = omega arith
last_within key (x ∷ xs) = go (last_with key xs) (eqb x.key key) refl (last_within key xs)
  where
    go : (n : ℕ) (b : Bool) → eqb x.key key ≡ b → n ≤ length xs → after_later n x.key key ≤ suc (length xs)
    go zero true e l = rw e (omega arith)
    go zero false e l = rw e (omega arith)
    go (suc n) b e l = omega arith

-- it has the key
pub last_has : (key : ℕ) (ls : List Link) (d : Link) (i : ℕ) → last_with key ls ≡ suc i → (get_or ls i d).key ≡ key
last_has key [] d i e = absurd (cc)
last_has key (x ∷ xs) d i e = go (last_with key xs) refl i e (λ j f. last_has key xs d j f)
  where
    first : (b : Bool) → eqb x.key key ≡ b → (i : ℕ) → (if b then 1 else 0) ≡ suc i → (get_or (x ∷ xs) i d).key ≡ key
    first true t zero e = grind (arith, nat_tests)
    first true t (suc i) e = absurd (omega arith)
    first false t i e = absurd (omega arith)

    go : (n : ℕ) → last_with key xs ≡ n → (i : ℕ) → after_later n x.key key ≡ suc i → ((j : ℕ) → last_with key xs ≡ suc j → (get_or xs j d).key ≡ key) → (get_or (x ∷ xs) i d).key ≡ key
    go zero is i e more = first (eqb x.key key) refl i e
    go (suc n) is zero e more = absurd (omega arith)
    go (suc n) is (suc i) e more = more i (omega arith)

-- no link with the key is past it
pub last_holds : (key : ℕ) (ls : List Link) (l : Link) → In l ls → l.key ≡ key → In l (take (last_with key ls) ls)
last_holds key [] l i e = absurd i
last_holds key (x ∷ xs) l i e = go (last_with key xs) refl (λ j. last_holds key xs l j e)
  where
    same : (y : Link) → l ≡ y → eqb y.key key ≡ true
    same y s = let t : y.key ≡ key = ap (λ z. z.key) (sym s) ∙ e in grind (arith, nat_tests)

    go : (n : ℕ) → last_with key xs ≡ n → (In l xs → In l (take (last_with key xs) xs)) → In l (take (after_later (last_with key xs) x.key key) (x ∷ xs))
    go zero is more =
        let first : l ≡ x = by_cases i (λ s. s) (λ j. absurd (subst (λ k. In l (take k xs)) is (more j))) in
        rw is (rw (same x first) (inl first))
    go (suc n) is more =
        let rest : In l xs → In l (take (suc n) xs) = λ j. subst (λ k. In l (take k xs)) is (more j) in
        let here : In l (take (suc (suc n)) (x ∷ xs)) = by_cases i (λ s. inl s) (λ j. inr (rest j)) in
        rw is here

-- ---- lists

in_push_left : {T : Type 0} (x : T) (xs : List T) (y : T) → In x xs → In x (xs ++ y ∷ [])
in_push_left x [] y i = absurd i
in_push_left x (z ∷ zs) y i = by_cases i (λ e. inl e) (λ j. inr (in_push_left x zs y j))

pub in_push_last : {T : Type 0} (xs : List T) (y : T) → In y (xs ++ y ∷ [])
in_push_last [] y = inl refl
in_push_last (z ∷ zs) y = inr (in_push_last zs y)

pub in_pushed : {T : Type 0} (x : T) (xs : List T) (y : T) → In x (xs ++ y ∷ []) → In x xs ⊎ (x ≡ y)
in_pushed x [] y i = by_cases i (λ e. inr e) (λ j. absurd j)
in_pushed x (z ∷ zs) y i = by_cases i (λ e. inl (inl e)) (λ j. by_cases (in_pushed x zs y j) (λ k. inl (inr k)) (λ e. inr e))

get_left : (ls : List Link) (l : Link) (i : ℕ) (d : Link) → i < length ls → get_or (ls ++ l ∷ []) i d ≡ get_or ls i d
get_left [] l i d lt = absurd (omega arith)
get_left (x ∷ xs) l zero d lt = refl
get_left (x ∷ xs) l (suc i) d lt = get_left xs l i d (omega arith)

get_last : (ls : List Link) (l : Link) (i : ℕ) (d : Link) → i ≡ length ls → get_or (ls ++ l ∷ []) i d ≡ l
get_last [] l zero d e = refl
get_last [] l (suc i) d e = absurd (omega arith)
get_last (x ∷ xs) l zero d e = absurd (omega arith)
get_last (x ∷ xs) l (suc i) d e = get_last xs l i d (omega arith)

take_left : (ls : List Link) (l : Link) (i : ℕ) → i ≤ length ls → take i (ls ++ l ∷ []) ≡ take i ls
take_left ls l zero le = refl
take_left [] l (suc i) le = absurd (omega arith)
take_left (x ∷ xs) l (suc i) le = ap (λ ys. x ∷ ys) (take_left xs l i (omega arith))

take_whole : (ls : List Link) (i : ℕ) → i ≡ length ls → take i ls ≡ ls
take_whole [] zero e = refl
take_whole [] (suc i) e = absurd (omega arith)
take_whole (x ∷ xs) zero e = absurd (omega arith)
take_whole (x ∷ xs) (suc i) e = ap (λ ys. x ∷ ys) (take_whole xs i (omega arith))

-- ---- one link more

chained_push : (ls : List Link) (key fid : ℕ) → AreChained ls → AreChained (ls ++ record { key = key; fid = fid; previous = last_with key ls } ∷ [])
chained_push ls key fid h i d lt = ⊎_elim
    (λ (l : i < length ls). before l)
    (λ (l : length ls ≤ i). last (omega (arith, l, lt, length-append ls (record { key = key; fid = fid; previous = last_with key ls } ∷ []))))
    (cases_lt i (length ls))
  where
    new : Link
    new = record { key = key; fid = fid; previous = last_with key ls }

    before : i < length ls → (get_or (ls ++ new ∷ []) i d).previous ≡ last_with (get_or (ls ++ new ∷ []) i d).key (take i (ls ++ new ∷ []))
    before l = rw (get_left ls new i d l) (h i d l ∙ ap (last_with (get_or ls i d).key) (sym (take_left ls new i (omega arith))))

    last : i ≡ length ls → (get_or (ls ++ new ∷ []) i d).previous ≡ last_with (get_or (ls ++ new ∷ []) i d).key (take i (ls ++ new ∷ []))
    last e = rw (get_last ls new i d e) (ap (last_with key) (sym (take_left ls new i (omega arith) ∙ take_whole ls i e)))

pub threaded_push : {S : Type 0} (old new : Option (HashMap ℕ ℕ S)) (ls : List Link) (key fid : ℕ) → IsThreaded old ls
    → ((other : ℕ) → newest_of new other ≡ newest_after (newest_of old other) other key (length ls + 1))
    → IsThreaded new (ls ++ record { key = key; fid = fid; previous = last_with key ls } ∷ [])
threaded_push old new ls key fid h puts = record {
  newest_is = λ k. puts k ∙ ap (λ n. newest_after n k key (length ls + 1)) (h.newest_is k) ∙ sym (last_push k ls (record { key = key; fid = fid; previous = last_with key ls }));
  chained = chained_push ls key fid h.chained;
}

-- ---- a link in place of one with its key

SameButFid : Link → Link → Type 0
SameButFid a b = (a.key ≡ b.key) × (a.previous ≡ b.previous)

last_set : (key : ℕ) (ls : List Link) (i : ℕ) (l : Link) → l.key ≡ (get_or ls i l).key → i < length ls → last_with key (set ls i l) ≡ last_with key ls
last_set key [] i l e lt = refl
last_set key (x ∷ xs) zero l e lt = ap (λ k. after_later (last_with key xs) k key) e
last_set key (x ∷ xs) (suc i) l e lt = ap (λ n. after_later n x.key key) (last_set key xs i l e (omega arith))

take_set_last : (key : ℕ) (ls : List Link) (i k : ℕ) (l : Link) → l.key ≡ (get_or ls i l).key → i < length ls → last_with key (take k (set ls i l)) ≡ last_with key (take k ls)
take_set_last key [] i k l e lt = refl
take_set_last key (x ∷ xs) i zero l e lt = refl
take_set_last key (x ∷ xs) zero (suc k) l e lt = ap (λ n. after_later (last_with key (take k xs)) n key) e
take_set_last key (x ∷ xs) (suc i) (suc k) l e lt = ap (λ n. after_later n x.key key) (take_set_last key xs i k l e (omega arith))

get_set : (ls : List Link) (i k : ℕ) (l d : Link) → i < length ls → k < length ls → l.key ≡ (get_or ls i d).key → l.previous ≡ (get_or ls i d).previous
    → ((get_or (set ls i l) k d).key ≡ (get_or ls k d).key) × ((get_or (set ls i l) k d).previous ≡ (get_or ls k d).previous)
get_set [] i k l d lt kt e p = absurd (omega arith)
get_set (x ∷ xs) zero zero l d lt kt e p = (e, p)
get_set (x ∷ xs) zero (suc k) l d lt kt e p = (refl, refl)
get_set (x ∷ xs) (suc i) zero l d lt kt e p = (refl, refl)
get_set (x ∷ xs) (suc i) (suc k) l d lt kt e p = get_set xs i k l d (omega arith) (omega arith) e p

length_set : (ls : List Link) (i : ℕ) (l : Link) → length (set ls i l) ≡ length ls
length_set [] i l = refl
length_set (x ∷ xs) zero l = refl
length_set (x ∷ xs) (suc i) l = ap suc (length_set xs i l)

get_default : (ls : List Link) (i : ℕ) (d e : Link) → i < length ls → get_or ls i d ≡ get_or ls i e
get_default [] i d e lt = absurd (omega arith)
get_default (x ∷ xs) zero d e lt = refl
get_default (x ∷ xs) (suc i) d e lt = get_default xs i d e (omega arith)

pub threaded_redirected : {S : Type 0} (map : Option (HashMap ℕ ℕ S)) (ls : List Link) (i fid : ℕ) → i < length ls → IsThreaded map ls → IsThreaded map (redirected i fid ls)
threaded_redirected map ls i fid lt h = record {
  newest_is = λ k. h.newest_is k ∙ sym (last_set k ls i new same lt);
  chained = λ k d m. let within : k < length ls = omega (arith, m, length_set ls i new) in
      let g = get_set ls i k new d lt within (same_at d) (previous_at d) in
      g.1 ∙ h.chained k d within ∙ ap (λ n. last_with n (take k ls)) (sym g.0) ∙ sym (take_set_last (get_or (set ls i new) k d).key ls i k new same lt);
}
  where
    new : Link
    new = record (get_or ls i no_link) { fid = fid }

    same_at : (d : Link) → new.key ≡ (get_or ls i d).key
    same_at d = ap (λ l. l.key) (get_default ls i no_link d lt)

    previous_at : (d : Link) → new.previous ≡ (get_or ls i d).previous
    previous_at d = ap (λ l. l.previous) (get_default ls i no_link d lt)

    same : new.key ≡ (get_or ls i new).key
    same = same_at new

-- ---- what still leads somewhere

pub leads_push : (ls : List Link) (new : Link) → Leads (ls ++ new ∷ []) new.key new.fid
leads_push ls new = (new, in_push_last ls new, refl, refl)

pub keeps_push : (keyed : Bool) (key : ℕ) (ls : List Link) (new : Link) → KeepsBut keyed key ls (ls ++ new ∷ [])
keeps_push keyed key ls new k fid (l, i, e, f) = inl (l, in_push_left l ls new i, e, f)

in_set : (l : Link) (ls : List Link) (i : ℕ) (new : Link) → i < length ls → In l ls → In l (set ls i new) ⊎ (l ≡ get_or ls i new)
in_set l [] i new lt j = absurd j
in_set l (x ∷ xs) zero new lt j = by_cases j (λ e. inr e) (λ k. inl (inr k))
in_set l (x ∷ xs) (suc i) new lt j = by_cases j (λ e. inl (inl e)) (λ k. by_cases (in_set l xs i new (omega arith) k) (λ m. inl (inr m)) (λ e. inr e))

set_there : (ls : List Link) (i : ℕ) (new : Link) → i < length ls → In new (set ls i new)
set_there [] i new lt = absurd (omega arith)
set_there (x ∷ xs) zero new lt = inl refl
set_there (x ∷ xs) (suc i) new lt = inr (set_there xs i new (omega arith))

before_last : (key : ℕ) (ls : List Link) → 0 < last_with key ls → (last_with key ls ≡ suc (last_with key ls - 1)) × (last_with key ls - 1 < length ls)
before_last key ls pos = let w = last_within key ls in (omega arith, omega arith)

pub leads_redirected : (key fid : ℕ) (ls : List Link) → 0 < last_with key ls → Leads (redirected (last_with key ls - 1) fid ls) key fid
leads_redirected key fid ls pos =
    let b = before_last key ls pos in
    (record (get_or ls (last_with key ls - 1) no_link) { fid = fid }, set_there ls (last_with key ls - 1) (record (get_or ls (last_with key ls - 1) no_link) { fid = fid }) b.1, last_has key ls no_link (last_with key ls - 1) b.0, refl)

pub keeps_redirected : (keyed : Bool) (key fid : ℕ) (ls : List Link) → keyed ≡ false → 0 < last_with key ls → KeepsBut keyed key ls (redirected (last_with key ls - 1) fid ls)
keeps_redirected keyed key fid ls stale pos k f (l, i, e, is) =
    let b = before_last key ls pos in
    by_cases (in_set l ls (last_with key ls - 1) (record (get_or ls (last_with key ls - 1) no_link) { fid = fid }) b.1 i)
    (λ j. inl (l, j, e, is))
    (λ s. let same = s ∙ get_default ls (last_with key ls - 1) (record (get_or ls (last_with key ls - 1) no_link) { fid = fid }) no_link b.1 in
    inr (stale, sym e ∙ ap (λ y. y.key) same ∙ last_has key ls no_link (last_with key ls - 1) b.0, ap (λ n. head_at n ls) b.0 ∙ ap Some (ap (λ y. y.fid) (sym same) ∙ is)))

-- ---- the newest link

pub head_some : (key : ℕ) (ls : List Link) → IsSome (head_of key ls) → 0 < last_with key ls
head_some key ls s = go (last_with key ls) s
  where
    go : (n : ℕ) → IsSome (head_at n ls) → 0 < n
    go zero s = absurd (cc)
    go (suc n) s = omega arith

pub head_index : (key : ℕ) (ls : List Link) → 0 < last_with key ls → last_with key ls - 1 < length ls
head_index key ls pos = (before_last key ls pos).1

get_in : (ls : List Link) (i : ℕ) (d : Link) → i < length ls → In (get_or ls i d) ls
get_in [] i d lt = absurd (omega arith)
get_in (x ∷ xs) zero d lt = inl refl
get_in (x ∷ xs) (suc i) d lt = inr (get_in xs i d (omega arith))

pub leads_head : (key fid : ℕ) (ls : List Link) → head_of key ls ≡ Some fid → Leads ls key fid
leads_head key fid ls e = go (last_with key ls) refl e
  where
    go : (n : ℕ) → last_with key ls ≡ n → head_at n ls ≡ Some fid → Leads ls key fid
    go zero is e = absurd (cc)
    go (suc n) is e =
        let w = last_within key ls in
        let f : (get_or ls n no_link).fid ≡ fid = cc in
        (get_or ls n no_link, get_in ls n no_link (omega arith), last_has key ls no_link n is, f)
