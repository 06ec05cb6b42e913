-- The record that leads among those seen so far.
use Rattle.std.proofs.Common.{◌≡◌, ◌∙◌, ◌++◌, ℕ, Bool, true, false, inl, inr, List, [], ◌∷◌, Option, Some, None, Ordering, Less, Equal, Greater, is_lt, bytes_eq, cond, map, option_map, refl, sym, ap, subst}
use Rattle.std.proofs.lemmas.Slice.Eq.{bytes_eq-Decides}
use Rattle.frs_base.specs.Names.{fold_unit, matches}
use Rattle.frs_base.specs.Options.{In}
use Rattle.frs_base.specs.Versions.{same_uid}
use Rattle.frs_base.specs.declared.version.Uid.{Uid}
use Rattle.vol_state.proofs.Volumes.{is_same}
use Rattle.vol_state.proofs.Walks.{same_is}
use Rattle.win_order.specs.Order.{key_lt, key_of}
use Rattle.win_order.specs.declared.key.Key.{Key}
use Rattle.win_order.specs.declared.update.Update.{Update}
use Rattle.name_rules.specs.Shown.{key_cmp}
use Rattle.name_rules.specs.Winner.{IsNameWinner, leader_of, wants}
use Rattle.name_rules.proofs.Lists.{in_back, in_either, in_front}
use Rattle.name_rules.proofs.Places.{and_left, and_right, both, not_below_itself}
use Rattle.name_rules.proofs.Ranks.{key_lt_is, key_total}

-- it has the greatest key of those seen that want the name; none where none of them does
abbrev pub Leads : List Update → Uid → List ℕ → Option Update → Type 0
Leads seen parent name (Some w) =
    In w seen × (wants parent name w ≡ true) × ((u : Update) → In u seen → wants parent name u ≡ true → key_lt (key_of w) (key_of u) ≡ false)
Leads seen parent name None = (u : Update) → In u seen → wants parent name u ≡ false

is_less : (o : Ordering) → is_lt o ≡ true → o ≡ Less
is_less Less e = refl
is_less Equal e = absurd (cc)
is_less Greater e = absurd (cc)

-- a key below another one isn't above what that one isn't below
above_too : (a b c : Key) → key_lt a b ≡ true → key_lt a c ≡ false → key_lt b c ≡ false
above_too a b c up low = by (key_lt b c) refl
  where
    by : (t : Bool) → key_lt b c ≡ t → t ≡ false
    by false e = refl
    by true e = absurd (
        let less : key_cmp a c ≡ Less = key_total.trans a b c (is_less _ (sym (key_lt_is a b) ∙ up)) (is_less _ (sym (key_lt_is b c) ∙ e)) in
        let both : true ≡ false = sym (key_lt_is a c ∙ ap is_lt less) ∙ low in
        cc)

-- the first that wants the name
leads_first : (seen : List Update) (parent : Uid) (name : List ℕ) (u : Update) → Leads seen parent name None → wants parent name u ≡ true → Leads (seen ++ u ∷ []) parent name (Some u)
leads_first seen parent name u lead wanted = (
  in_back seen (u ∷ []) u (inl refl),
  wanted,
  λ v h t. elim (in_either seen (u ∷ []) v h) [
    | inl old ↦ absurd (let both : true ≡ false = sym t ∙ lead v old in cc)
    | inr (inl e) ↦ subst (λ x. key_lt (key_of u) (key_of x) ≡ false) (sym e) (not_below_itself u)
    | inr (inr out) ↦ absurd out
  ],
)

-- one more is seen, and it leads
takes_lead : (seen : List Update) (parent : Uid) (name : List ℕ) (w u : Update) → Leads seen parent name (Some w) → wants parent name u ≡ true → key_lt (key_of w) (key_of u) ≡ true
    → Leads (seen ++ u ∷ []) parent name (Some u)
takes_lead seen parent name w u lead wanted above = (
  in_back seen (u ∷ []) u (inl refl),
  wanted,
  λ v h t. elim (in_either seen (u ∷ []) v h) [
    | inl old ↦ above_too (key_of w) (key_of u) (key_of v) above (lead.2 v old t)
    | inr (inl e) ↦ subst (λ x. key_lt (key_of u) (key_of x) ≡ false) (sym e) (not_below_itself u)
    | inr (inr out) ↦ absurd out
  ],
)

-- one more is seen, which doesn't want the name
pub passes_by : (seen : List Update) (parent : Uid) (name : List ℕ) (w : Option Update) (u : Update) → Leads seen parent name w → wants parent name u ≡ false → Leads (seen ++ u ∷ []) parent name w
passes_by seen parent name None u lead other = λ v h. elim (in_either seen (u ∷ []) v h) [
  | inl old ↦ lead v old
  | inr (inl e) ↦ subst (λ x. wants parent name x ≡ false) (sym e) other
  | inr (inr out) ↦ absurd out
]
passes_by seen parent name (Some w) u lead other = (
  in_front seen (u ∷ []) w lead.0,
  lead.1,
  λ v h t. elim (in_either seen (u ∷ []) v h) [
    | inl old ↦ lead.2 v old t
    | inr (inl e) ↦ absurd (let both : true ≡ false = sym t ∙ ap (wants parent name) e ∙ other in cc)
    | inr (inr out) ↦ absurd out
  ],
)

-- one more is seen, which doesn't lead
keeps_lead : (seen : List Update) (parent : Uid) (name : List ℕ) (w u : Update) → Leads seen parent name (Some w) → key_lt (key_of w) (key_of u) ≡ false → Leads (seen ++ u ∷ []) parent name (Some w)
keeps_lead seen parent name w u lead below = (
  in_front seen (u ∷ []) w lead.0,
  lead.1,
  λ v h t. elim (in_either seen (u ∷ []) v h) [
    | inl old ↦ lead.2 v old t
    | inr (inl e) ↦ subst (λ x. key_lt (key_of w) (key_of x) ≡ false) (sym e) below
    | inr (inr out) ↦ absurd out
  ],
)

-- one more is seen, which wants the name
pub next_leads : (seen : List Update) (parent : Uid) (name : List ℕ) (w : Option Update) (u : Update) → Leads seen parent name w → wants parent name u ≡ true
    → Leads (seen ++ u ∷ []) parent name (leader_of w u)
next_leads seen parent name None u lead wanted = leads_first seen parent name u lead wanted
next_leads seen parent name (Some w) u lead wanted = by (key_lt (key_of w) (key_of u)) refl
  where
    by : (b : Bool) → key_lt (key_of w) (key_of u) ≡ b → Leads (seen ++ u ∷ []) parent name (cond b (Some u) (Some w))
    by true e = takes_lead seen parent name w u lead wanted e
    by false e = keeps_lead seen parent name w u lead e

-- ---- at the end

-- what matches one that matches a name matches it
match_through : (a b c : List ℕ) → matches a b ≡ true → matches b c ≡ true → matches a c ≡ true
match_through a b c p q =
    let same : map fold_unit a ≡ map fold_unit b = (bytes_eq-Decides (map fold_unit a) (map fold_unit b)).0 p in
    ap (λ l. bytes_eq l (map fold_unit c)) same ∙ q

pub wins : (records : List Update) (parent : Uid) (name : List ℕ) (w : Option Update) → Leads records parent name w → IsNameWinner records parent name (option_map (λ u. u.uid) w)
wins records parent name None lead = λ u there present inside named.
    let wanted = both _ _ (both _ _ present (subst (λ p. same_uid u.parent p ≡ true) inside (is_same u.parent))) named in
    let both : true ≡ false = sym wanted ∙ lead u there in
    cc
wins records parent name (Some w) lead =
    let first = and_left _ _ lead.1 in
    let named = and_right _ _ lead.1 in
    let inside = same_is w.parent parent (and_right _ _ first) in (
      w,
      record {
        among = lead.0;
        present = and_left _ _ first;
        greatest = λ v there present beside same.
            lead.2 v there (both _ _ (both _ _ present (subst (λ p. same_uid v.parent p ≡ true) (beside ∙ inside) (is_same v.parent))) (match_through v.name w.name name same named));
      },
      refl,
      inside,
      named,
    )
