-- Pages that grow record by record, and interval by interval.
use Rattle.std.proofs.Common.{◌≡◌, ◌⊎◌, ◌∙◌, ◌+◌, ◌<◌, ◌≤◌, ◌&&◌, ◌||◌, ℕ, Bool, true, false, List, [], ◌∷◌, ◌++◌, inl, inr, Some, None, zero, suc, refl, sym, ap, subst, arith, nat_lt, take, length, get_or}
use Rattle.std.specs.List.{AllByRecursion}
use Rattle.std.proofs.lemmas.Bool.Decides.{nat_tests}
use Rattle.frs_base.specs.Options.{In}
use Rattle.frs_base.specs.Versions.{gvsn_lt}
use Rattle.frs_base.specs.declared.version.Gvsn.{Gvsn}
use Rattle.version_vector.specs.Versions.{IsCanonical, covers, inside, is_before}
use Rattle.version_vector.specs.declared.interval.Interval.{Interval}
use Rattle.version_vector.proofs.Canonical.{before_trans, covers-append, head_full, tail_form, tail_starts}
use Rattle.win_order.specs.declared.update.Update.{Update}
use Rattle.record_db.specs.Records.{Versions}
use Rattle.record_db.specs.Maps.{IsFirstFrom}
use Rattle.record_db.proofs.Sets.{in_after, in_append, in_before, or_cases, or_left, or_right}
use Rattle.pinned_pages.specs.Pages.{IsByVersion, IsFirstWithin, IsPage}

-- ---- in order

all_of : (P : Update → Type 0) (us : List Update) → ((u : Update) → In u us → P u) → AllByRecursion P us
all_of P [] f = tt
all_of P (u ∷ us) f = (f u (inl refl), all_of P us (λ v h. f v (inr h)))

in_all : (P : Update → Type 0) (us : List Update) (u : Update) → AllByRecursion P us → In u us → P u
in_all P [] u a h = absurd h
in_all P (v ∷ us) u a (inl s) = subst P (sym s) a.0
in_all P (v ∷ us) u a (inr h) = in_all P us u a.1 h

-- a list and one all of whose versions are above it
joined_up : (us vs : List Update) → IsByVersion us → IsByVersion vs → ((u v : Update) → In u us → In v vs → gvsn_lt u.gvsn v.gvsn ≡ true) → IsByVersion (us ++ vs)
joined_up [] vs up more low = more
joined_up (u ∷ us) vs up more low = (
  all_of (λ v. gvsn_lt u.gvsn v.gvsn ≡ true) (us ++ vs) (λ v h. elim (in_append v us vs h) [ inl k ↦ in_all (λ v. gvsn_lt u.gvsn v.gvsn ≡ true) us v up.0 k | inr k ↦ low u v (inl refl) k ]),
  joined_up us vs up.1 more (λ a b h k. low a b (inr h) k),
)

-- two pages, one after the other
page_joined : (one two both : Versions) (records us vs : List Update) → IsPage one records us → IsPage two records vs
    → ((u v : Update) → In u us → In v vs → gvsn_lt u.gvsn v.gvsn ≡ true)
    → ((g : Gvsn) → both g ≡ (one g || two g)) → IsPage both records (us ++ vs)
page_joined one two both records us vs p q low is = record {
  ordered = joined_up us vs p.ordered q.ordered low;
  each = λ u h. elim (in_append u us vs h) [
    | inl k ↦ let (there, asked) = p.each u k in (there, is u.gvsn ∙ or_left (one u.gvsn) (two u.gvsn) asked)
    | inr k ↦ let (there, asked) = q.each u k in (there, is u.gvsn ∙ or_right (one u.gvsn) (two u.gvsn) asked)
  ];
  whole = λ u h asked. elim (or_cases (one u.gvsn) (two u.gvsn) (sym (is u.gvsn) ∙ asked)) [
    | inl t ↦ in_before u us vs (p.whole u h t)
    | inr t ↦ in_after u us vs (q.whole u h t)
  ];
}

-- the same versions asked for
pub page_same : (one two : Versions) (records us : List Update) → ((u : Update) → In u records → one u.gvsn ≡ two u.gvsn) → IsPage one records us → IsPage two records us
page_same one two records us is p = record {
  ordered = p.ordered;
  each = λ u h. let (there, asked) = p.each u h in (there, sym (is u there) ∙ asked);
  whole = λ u h asked. p.whole u h (is u h ∙ asked);
}

-- ---- record by record

-- the versions of an interval that are below one
abbrev pub below : Interval → ℕ → Versions
below i low g = inside i g && nat_lt g.version low

-- what is left of an interval from a version on
abbrev pub left : Interval → ℕ → Interval
left i low = record i { low = low }

pub low_end : (i : Interval) (g : Gvsn) → inside i g ≡ true → i.low ≤ g.version
low_end i g at = grind (arith, nat_tests)

pub first_kept : (i : Interval) (records : List Update) (r : Update) → IsFirstFrom (record { db = i.db; version = i.low }) records (Some r) → inside i r.gvsn ≡ true → IsFirstWithin i records (Some r)
first_kept i records r first within = (first.0, within, λ u h at. first.2 u h (from i u.gvsn at))
  where
    from : (i : Interval) (g : Gvsn) → inside i g ≡ true → gvsn_lt g (record { db = i.db; version = i.low }) ≡ false
    from i g at = grind (arith, nat_tests)

-- the first from the interval's low end on is behind it
pub first_past : (i : Interval) (records : List Update) (r : Update) → IsFirstFrom (record { db = i.db; version = i.low }) records (Some r) → inside i r.gvsn ≡ false → IsFirstWithin i records None
first_past i records r first outside u h at = elim (first.2 u h (from i u.gvsn at)) [
  | inl s ↦ absurd (let t : inside i r.gvsn ≡ true = subst (λ (v : Update). inside i v.gvsn ≡ true) s at in cc)
  | inr up ↦ between i r.gvsn u.gvsn first.1 outside up at
]
  where
    from : (i : Interval) (g : Gvsn) → inside i g ≡ true → gvsn_lt g (record { db = i.db; version = i.low }) ≡ false
    from i g at = grind (arith, nat_tests)

    between : (i : Interval) (g h : Gvsn) → gvsn_lt g (record { db = i.db; version = i.low }) ≡ false → inside i g ≡ false → gvsn_lt g h ≡ true → inside i h ≡ true → ⊥
    between i g h low out up at = grind (arith, nat_tests)

pub first_none : (i : Interval) (records : List Update) → IsFirstFrom (record { db = i.db; version = i.low }) records None → IsFirstWithin i records None
first_none i records none u h at = no i u.gvsn (none u h) at
  where
    no : (i : Interval) (g : Gvsn) → gvsn_lt g (record { db = i.db; version = i.low }) ≡ true → inside i g ≡ true → ⊥
    no i g low at = grind (arith, nat_tests)

pub page_begins : (i : Interval) (records : List Update) → IsPage (below i i.low) records []
page_begins i records = record {
  ordered = tt;
  each = λ u h. absurd h;
  whole = λ u h asked. no i u.gvsn asked;
}
  where
    no : (i : Interval) (g : Gvsn) → (inside i g && nat_lt g.version i.low) ≡ true → ⊥
    no i g at = grind (arith, nat_tests)

pub page_grows : (i : Interval) (low : ℕ) (records page : List Update) (r : Update) → i.low ≤ low → IsPage (below i low) records page → IsFirstWithin (left i low) records (Some r)
    → IsPage (below i (r.gvsn.version + 1)) records (page ++ r ∷ [])
page_grows i low records page r from p first = record {
  ordered = joined_up page (r ∷ []) p.ordered (tt, tt) (λ u v h k. elim k [ inl s ↦ subst (λ (w : Update). gvsn_lt u.gvsn w.gvsn ≡ true) (sym s) (lower i low u.gvsn r.gvsn (p.each u h).1 first.1) | inr n ↦ absurd n ]);
  each = λ u h. elim (in_append u page (r ∷ []) h) [
    | inl k ↦ let (there, asked) = p.each u k in (there, more i low u.gvsn r.gvsn asked first.1)
    | inr k ↦ elim k [ inl s ↦ (subst (λ v. In v records) (sym s) first.0, subst (λ (v : Update). below i (r.gvsn.version + 1) v.gvsn ≡ true) (sym s) (itself i low r.gvsn from first.1)) | inr n ↦ absurd n ]
  ];
  whole = λ u h asked. elim (parts i low u.gvsn r.gvsn asked) [
    | inl t ↦ in_before u page (r ∷ []) (p.whole u h t)
    | inr t ↦ elim (first.2 u h t) [
      | inl s ↦ in_after u page (r ∷ []) (inl s)
      | inr up ↦ absurd (past i u.gvsn r.gvsn asked up first.1)
    ]
  ];
}
  where
    lower : (i : Interval) (low : ℕ) (g h : Gvsn) → below i low g ≡ true → inside (left i low) h ≡ true → gvsn_lt g h ≡ true
    lower i low g h a b = grind (arith, nat_tests)

    more : (i : Interval) (low : ℕ) (g h : Gvsn) → below i low g ≡ true → inside (left i low) h ≡ true → below i (h.version + 1) g ≡ true
    more i low g h a b = grind (arith, nat_tests)

    itself : (i : Interval) (low : ℕ) (h : Gvsn) → i.low ≤ low → inside (left i low) h ≡ true → below i (h.version + 1) h ≡ true
    itself i low h from b = grind (arith, nat_tests)

    parts : (i : Interval) (low : ℕ) (g h : Gvsn) → below i (h.version + 1) g ≡ true → (below i low g ≡ true) ⊎ (inside (left i low) g ≡ true)
    parts i low g h a = by (nat_lt g.version low) refl
      where
        by : (b : Bool) → nat_lt g.version low ≡ b → (below i low g ≡ true) ⊎ (inside (left i low) g ≡ true)
        by true e = inl (grind (arith, nat_tests))
        by false e = inr (grind (arith, nat_tests))

    past : (i : Interval) (g h : Gvsn) → below i (h.version + 1) g ≡ true → gvsn_lt h g ≡ true → inside (left i low) h ≡ true → ⊥
    past i g h a up b = grind (arith, nat_tests)

pub page_ends : (i : Interval) (low : ℕ) (records page : List Update) → IsPage (below i low) records page → IsFirstWithin (left i low) records None → IsPage (inside i) records page
page_ends i low records page p none = record {
  ordered = p.ordered;
  each = λ u h. let (there, asked) = p.each u h in (there, within i low u.gvsn asked);
  whole = λ u h asked. by u h asked (nat_lt u.gvsn.version low) refl;
}
  where
    within : (i : Interval) (low : ℕ) (g : Gvsn) → below i low g ≡ true → inside i g ≡ true
    within i low g a = grind (arith, nat_tests)

    under : (i : Interval) (low : ℕ) (g : Gvsn) → inside i g ≡ true → nat_lt g.version low ≡ true → below i low g ≡ true
    under i low g a e = grind (arith, nat_tests)

    over : (i : Interval) (low : ℕ) (g : Gvsn) → inside i g ≡ true → nat_lt g.version low ≡ false → inside (left i low) g ≡ true
    over i low g a e = grind (arith, nat_tests)

    by : (u : Update) → In u records → inside i u.gvsn ≡ true → (b : Bool) → nat_lt u.gvsn.version low ≡ b → In u page
    by u h asked true e = p.whole u h (under i low u.gvsn asked e)
    by u h asked false e = absurd (none u h (over i low u.gvsn asked e))

-- ---- interval by interval

before_end : (j i : Interval) (pre : List Interval) → IsCanonical (j ∷ (pre ++ i ∷ [])) → is_before j i ≡ true
before_end j i [] form = form.1
before_end j i (k ∷ pre) form =
    before_trans j k i (head_full k (pre ++ i ∷ []) form.2) form.1 (before_end k i pre form.2)

below_next : (i j : Interval) (g h : Gvsn) → is_before i j ≡ true → inside i g ≡ true → inside j h ≡ true → gvsn_lt g h ≡ true
below_next i j g h low a b = grind (arith, nat_tests)

covered_below : (pre : List Interval) (i : Interval) (g h : Gvsn) → IsCanonical (pre ++ i ∷ []) → covers pre g ≡ true → inside i h ≡ true → gvsn_lt g h ≡ true
covered_below [] i g h form at within = absurd (cc)
covered_below (j ∷ pre) i g h form at within = elim (or_cases (inside j g) (covers pre g) at) [
  | inl t ↦ below_next j i g h (before_end j i pre form) t within
  | inr t ↦ covered_below pre i g h (tail_form j (pre ++ i ∷ []) form) t within
]

or_false : (b : Bool) → (b || false) ≡ b
or_false true = refl
or_false false = refl

pub page_joins : (pre : List Interval) (i : Interval) (records page added : List Update) → IsCanonical (pre ++ i ∷ []) → IsPage (covers pre) records page → IsPage (inside i) records added
    → IsPage (covers (pre ++ i ∷ [])) records (page ++ added)
page_joins pre i records page added form p q =
    page_joined (covers pre) (inside i) (covers (pre ++ i ∷ [])) records page added p q
    (λ u v h k. covered_below pre i u.gvsn v.gvsn form (p.each u h).1 (q.each v k).1)
    (λ g. covers-append pre (i ∷ []) g ∙ ap (λ b. covers pre g || b) (or_false (inside i g)))

-- a list's beginning becomes longer by the item behind it
pub beginning_grows : {X : Type 0} (xs : List X) (n : ℕ) (x d : X) → n < length xs → x ≡ get_or xs n d → take n xs ++ x ∷ [] ≡ take (n + 1) xs
beginning_grows [] n x d within is = absurd (omega arith)
beginning_grows (y ∷ xs) zero x d within is = ap (λ z. z ∷ []) is
beginning_grows (y ∷ xs) (suc n) x d within is = let k : suc n + 1 ≡ suc (n + 1) = omega arith in ap (λ l. y ∷ l) (beginning_grows xs n x d (omega arith) is) ∙ sym (ap (λ m. take m (y ∷ xs)) k)

pub page_of_none : (records : List Update) → IsPage (covers []) records []
page_of_none records = record { ordered = tt; each = λ u h. absurd h; whole = λ u h asked. absurd (cc) }
