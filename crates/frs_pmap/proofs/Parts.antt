-- Entries in parts: which part a key is in, and what a change of that part makes of the whole.
use Rattle.std.proofs.Common.{◌≡◌, ◌∙◌, ◌+◌, ◌-◌, ◌<◌, ℕ, true, List, [], ◌∷◌, ◌++◌, Some, refl, sym, ap, subst, suc, zero, length, take, drop, arith}
use Rattle.std.specs.Prelude.{slice_get}
use Rattle.std.specs.List.{AllByRecursion, flat_map, prefix_len}
use Rattle.std.proofs.lemmas.Grind.{flat_map-append}
use Rattle.std.proofs.lemmas.List.{take-append-drop}
use Rattle.std.specs.Cmp.{IsTotalOrder}
use Rattle.std.specs.Ordering.{is_le}
use Rattle.std.specs.declared.cmp.Ordering.{Ordering}
use Rattle.std.specs.declared.cmp.Ordering.TheVariants.{Less}
use Rattle.std.specs.Map.{lookup, remove_entry}
use Rattle.std.specs.BTreeMap.{insert_entry, is_at}
use Rattle.frs_pmap.specs.Entries.{IsRising, is_upto}
use Rattle.frs_pmap.specs.Trees.{AreHeaded, HasHead, flat}
use Rattle.frs_pmap.proofs.Orders.{AllHigh, AllLow, all_back, all_front, all_join, at_get, high_from_first, insert_before, insert_past, lookup_before, lookup_past, low_before, place_none, place_some, remove_before, remove_past, rising_back, rising_front}

module _ {K V P : Type 0} {cmp : K → K → Ordering} (o : IsTotalOrder cmp) (f : P → List (K × V)) where
  -- the entries of the parts
  abbrev pub flat_by : List (K × P) → List (K × V)
  flat_by cs = flat_map (λ c. f c.1) cs

  -- each part's entries begin with its key
  abbrev pub HeadedBy : List (K × P) → Type 0
  HeadedBy cs = AllByRecursion (λ c. HasHead c.0 (f c.1)) cs

  heads_above : (k : K) (cs : List (K × P)) → AllByRecursion (λ e. cmp k e.0 ≡ Less) (flat_by cs) → HeadedBy cs → AllByRecursion (λ d. cmp k d.0 ≡ Less) cs
  heads_above k [] a h = tt
  heads_above k (c ∷ cs) a h = (first (f c.1) h.0 a, heads_above k cs (all_back (λ e. cmp k e.0 ≡ Less) (f c.1) (flat_by cs) a) h.1)
    where
      first : (l : List (K × V)) → HasHead c.0 l → AllByRecursion (λ e. cmp k e.0 ≡ Less) (l ++ flat_by cs) → cmp k c.0 ≡ Less
      first [] h a = absurd h
      first (e ∷ l) h a = subst (λ x. cmp k x ≡ Less) h a.0

  pub lows_rising : (cs : List (K × P)) → IsRising cmp (flat_by cs) → HeadedBy cs → IsRising cmp cs
  lows_rising [] up h = tt
  lows_rising (c ∷ cs) up h = (first (f c.1) h.0 up, lows_rising cs (rising_back o (f c.1) (flat_by cs) up) h.1)
    where
      first : (l : List (K × V)) → HasHead c.0 l → IsRising cmp (l ++ flat_by cs) → AllByRecursion (λ d. cmp c.0 d.0 ≡ Less) cs
      first [] h0 up = absurd h0
      first (e ∷ l) h0 up = subst (λ x. AllByRecursion (λ d. cmp x d.0 ≡ Less) cs) h0 (heads_above e.0 cs (all_back (λ x. cmp e.0 x.0 ≡ Less) l (flat_by cs) up.0) h.1)

  high_of : (k : K) (cs : List (K × P)) → AllHigh o k cs → HeadedBy cs → IsRising cmp (flat_by cs) → AllHigh o k (flat_by cs)
  high_of k [] a h up = tt
  high_of k (c ∷ cs) a h up = first (f c.1) h.0 up
    where
      first : (l : List (K × V)) → HasHead c.0 l → IsRising cmp (l ++ flat_by cs) → AllHigh o k (l ++ flat_by cs)
      first [] h0 up = absurd h0
      first (e ∷ l) h0 up = let here : cmp k e.0 ≡ Less = subst (λ x. cmp k x ≡ Less) (sym h0) a.0 in (here, high_from_first o k e (l ++ flat_by cs) here up.0)

  low_of : (k : K) (a : List (K × V)) (c : K × P) (b : List (K × V)) → HasHead c.0 (f c.1) → is_le (cmp c.0 k) ≡ true → IsRising cmp (a ++ (f c.1 ++ b)) → AllLow o k a
  low_of k a c b h le up = by (f c.1) h up
    where
      by : (l : List (K × V)) → HasHead c.0 l → IsRising cmp (a ++ (l ++ b)) → AllLow o k a
      by [] h up = absurd h
      by (e ∷ l) h up = low_before o a e (l ++ b) k up (subst (λ x. is_le (cmp x k) ≡ true) (sym h) le)

  -- the whole around the part that a key is in
  pub record Between (k : K) (cs : List (K × P)) (i : ℕ) (c : K × P) : Type 0 where
    pub split : flat_by cs ≡ flat_by (take i cs) ++ (f c.1 ++ flat_by (drop (suc i) cs))
    pub low : AllLow o k (flat_by (take i cs))
    pub high : AllHigh o k (flat_by (drop (suc i) cs))
    pub rising : IsRising cmp (f c.1)

  split_of : (cs : List (K × P)) (i : ℕ) (c : K × P) → slice_get cs i ≡ Some c → flat_by cs ≡ flat_by (take i cs) ++ (f c.1 ++ flat_by (drop (suc i) cs))
  split_of cs i c got = ap flat_by (at_get cs i c got) ∙ flat_map-append (λ c. f c.1) (take i cs) (c ∷ drop (suc i) cs)

  at_part : (cs : List (K × P)) (i : ℕ) (c : K × P) (Q : K × P → Type 0) → slice_get cs i ≡ Some c → AllByRecursion Q cs → Q c
  at_part [] i c Q got a = absurd (cc)
  at_part (d ∷ cs) zero c Q got a = let e : d ≡ c = cc in subst Q e a.0
  at_part (d ∷ cs) (suc i) c Q got a = at_part cs i c Q got a.1

  pub between : (k : K) (cs : List (K × P)) (i : ℕ) (c : K × P) → IsRising cmp (flat_by cs) → HeadedBy cs → i ≡ prefix_len (is_upto cmp k) cs - 1 → slice_get cs i ≡ Some c → Between k cs i c
  between k cs i c up h is got = by (prefix_len (is_upto cmp k) cs) refl
    where
      s : flat_by cs ≡ flat_by (take i cs) ++ (f c.1 ++ flat_by (drop (suc i) cs))
      s = split_of cs i c got

      up' : IsRising cmp (flat_by (take i cs) ++ (f c.1 ++ flat_by (drop (suc i) cs)))
      up' = subst (IsRising cmp) s up

      up'' : IsRising cmp (f c.1 ++ flat_by (drop (suc i) cs))
      up'' = rising_back o (flat_by (take i cs)) (f c.1 ++ flat_by (drop (suc i) cs)) up'

      lows : IsRising cmp cs
      lows = lows_rising cs up h

      back : HeadedBy (drop (suc i) cs)
      back = all_back (λ c. HasHead c.0 (f c.1)) (take (suc i) cs) (drop (suc i) cs) (subst HeadedBy (sym (take-append-drop (suc i) cs)) h)

      by : (at : ℕ) → at ≡ prefix_len (is_upto cmp k) cs → Between k cs i c
      by zero e =
          let none : AllHigh o k cs = place_none o k cs lows e in
          let all : AllHigh o k (flat_by cs) = high_of k cs none h up in
          let zero_is : i ≡ 0 = omega arith in
          record {
            split = s;
            low = subst (λ j. AllLow o k (flat_by (take j cs))) (sym zero_is) tt;
            high = all_back (λ e. cmp k e.0 ≡ Less) (f c.1) (flat_by (drop (suc i) cs)) (all_back (λ e. cmp k e.0 ≡ Less) (flat_by (take i cs)) (f c.1 ++ flat_by (drop (suc i) cs)) (subst (AllHigh o k) s all));
            rising = rising_front o (f c.1) (flat_by (drop (suc i) cs)) up'';
          }
      by (suc j) e =
          let p = place_some o k cs i c lows (omega arith) got in
          record {
            split = s;
            low = low_of k (flat_by (take i cs)) c (flat_by (drop (suc i) cs)) (at_part cs i c (λ c. HasHead c.0 (f c.1)) got h) p.1 up';
            high = high_of k (drop (suc i) cs) p.2 back (rising_back o (f c.1) (flat_by (drop (suc i) cs)) up'');
            rising = rising_front o (f c.1) (flat_by (drop (suc i) cs)) up'';
          }

  pub get_part : (k : K) (cs : List (K × P)) (i : ℕ) (c : K × P) → Between k cs i c → lookup (is_at (cmp k)) (flat_by cs) ≡ lookup (is_at (cmp k)) (f c.1)
  get_part k cs i c b = ap (lookup (is_at (cmp k))) b.split ∙ lookup_past o k (flat_by (take i cs)) (f c.1 ++ flat_by (drop (suc i) cs)) b.low ∙ lookup_before o k (f c.1) (flat_by (drop (suc i) cs)) b.high

  joined_flat : (cs ps r : List (K × P)) (i : ℕ) → r ≡ take i cs ++ (ps ++ drop (i + 1) cs) → flat_by r ≡ flat_by (take i cs) ++ (flat_by ps ++ flat_by (drop (suc i) cs))
  joined_flat cs ps r i e =
      let n : i + 1 ≡ suc i = omega arith in
      ap flat_by (e ∙ ap (λ n. take i cs ++ (ps ++ drop n cs)) n) ∙ flat_map-append (λ c. f c.1) (take i cs) (ps ++ drop (suc i) cs)
      ∙ ap (λ l. flat_by (take i cs) ++ l) (flat_map-append (λ c. f c.1) ps (drop (suc i) cs))

  pub put_part : (k : K) (v : V) (cs ps r : List (K × P)) (i : ℕ) (c : K × P) → Between k cs i c → r ≡ take i cs ++ (ps ++ drop (i + 1) cs) → flat_by ps ≡ insert_entry cmp (f c.1) k v
      → flat_by r ≡ insert_entry cmp (flat_by cs) k v
  put_part k v cs ps r i c b e e' =
      joined_flat cs ps r i e ∙ ap (λ l. flat_by (take i cs) ++ (l ++ flat_by (drop (suc i) cs))) e'
      ∙ sym (ap (λ l. insert_entry cmp l k v) b.split ∙ insert_past o k v (flat_by (take i cs)) (f c.1 ++ flat_by (drop (suc i) cs)) b.low
      ∙ ap (λ l. flat_by (take i cs) ++ l) (insert_before o k v (f c.1) (flat_by (drop (suc i) cs)) b.high))

  pub cut_part : (k : K) (cs ps r : List (K × P)) (i : ℕ) (c : K × P) → Between k cs i c → r ≡ take i cs ++ (ps ++ drop (i + 1) cs) → flat_by ps ≡ remove_entry (is_at (cmp k)) (f c.1)
      → flat_by r ≡ remove_entry (is_at (cmp k)) (flat_by cs)
  cut_part k cs ps r i c b e e' =
      joined_flat cs ps r i e ∙ ap (λ l. flat_by (take i cs) ++ (l ++ flat_by (drop (suc i) cs))) e'
      ∙ sym (ap (remove_entry (is_at (cmp k))) b.split ∙ remove_past o k (flat_by (take i cs)) (f c.1 ++ flat_by (drop (suc i) cs)) b.low
      ∙ ap (λ l. flat_by (take i cs) ++ l) (remove_before o k (f c.1) (flat_by (drop (suc i) cs)) b.high))

-- what holds of each part holds after some are put in the place of one
pub all_joined : {X : Type 0} (Q : X → Type 0) (cs ps r : List X) (i : ℕ) → AllByRecursion Q cs → AllByRecursion Q ps → r ≡ take i cs ++ (ps ++ drop (i + 1) cs) → AllByRecursion Q r
all_joined Q cs ps r i a b e =
    let front : AllByRecursion Q (take i cs) = all_front Q (take i cs) (drop i cs) (subst (AllByRecursion Q) (sym (take-append-drop i cs)) a) in
    let back : AllByRecursion Q (drop (i + 1) cs) = all_back Q (take (i + 1) cs) (drop (i + 1) cs) (subst (AllByRecursion Q) (sym (take-append-drop (i + 1) cs)) a) in
    subst (AllByRecursion Q) (sym e) (all_join Q (take i cs) (ps ++ drop (i + 1) cs) front (all_join Q ps (drop (i + 1) cs) b back))

pub at_one : {X : Type 0} (Q : X → Type 0) (cs : List X) (i : ℕ) (c : X) → slice_get cs i ≡ Some c → AllByRecursion Q cs → Q c
at_one Q [] i c got a = absurd (cc)
at_one Q (d ∷ cs) zero c got a = let e : d ≡ c = cc in subst Q e a.0
at_one Q (d ∷ cs) (suc i) c got a = at_one Q cs i c got a.1

-- ---- rows of rows

pub flat_flat : {K V : Type 0} (ps : List (K × List (K × List (K × V)))) → flat_map (λ c. flat c.1) ps ≡ flat (flat ps)
flat_flat [] = refl
flat_flat (p ∷ ps) = ap (λ l. flat p.1 ++ l) (flat_flat ps) ∙ sym (flat_map-append (λ c. c.1) p.1 (flat ps))

pub deep_head : {K V : Type 0} (k : K) (m : List (K × List (K × V))) → HasHead k m → AreHeaded m → HasHead k (flat m)
deep_head k [] h a = h
deep_head {K} {V} k (d ∷ ds) h a = by d.1 a.0
  where
    by : (l : List (K × V)) → HasHead d.0 l → HasHead k (l ++ flat ds)
    by [] h' = absurd h'
    by (e ∷ l) h' = h' ∙ h

pub deep_heads : {K V : Type 0} (root : List (K × List (K × List (K × V)))) → AreHeaded root → AllByRecursion (λ c. AreHeaded c.1) root → AllByRecursion (λ c. HasHead c.0 (flat c.1)) root
deep_heads [] h a = tt
deep_heads (c ∷ root) h a = (deep_head c.0 c.1 h.0 a.0, deep_heads root h.1 a.1)

pub pieces_headed : {K V : Type 0} (ps : List (K × List (K × List (K × V)))) → AreHeaded (flat ps) → AllByRecursion (λ c. AreHeaded c.1) ps
pieces_headed [] h = tt
pieces_headed (p ∷ ps) h = (all_front (λ c. HasHead c.0 c.1) p.1 (flat ps) h, pieces_headed ps (all_back (λ c. HasHead c.0 c.1) p.1 (flat ps) h))

pub head_some : {K X : Type 0} (k : K) (l : List (K × X)) → HasHead k l → 0 < length l
head_some k [] h = absurd h
head_some k (e ∷ l) h = omega arith
