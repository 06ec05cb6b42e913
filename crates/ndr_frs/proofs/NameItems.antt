-- A name that was read.
use Rattle.std.proofs.Common.{◌≡◌, ◌∙◌, ◌+◌, ℕ, List, Result, Ok, Err, cond, sym, ap, subst}
use Rattle.frs_base.specs.Names.{IsName}
use Rattle.frs_base.specs.NameErrors.{IsRefused}
use Rattle.frs_base.specs.declared.name.NameError.{NameError}
use Rattle.frs_base.specs.declared.name.NameError.TheVariants.{NameBad}
use Rattle.ndr_core.specs.Cursor.{Cursor}
use Rattle.ndr_core.specs.Items.{◌>>=◌, padding}
use Rattle.ndr_core.specs.Strings.{string}
use Rattle.ndr_core.specs.declared.refusal.NdrBad.{NdrBad}
use Rattle.ndr_core.specs.declared.refusal.NdrBad.TheVariants.{Value}
use Rattle.ndr_frs.specs.Shared.{is_name, name_item}
use Rattle.ndr_frs.proofs.Names.{name_true, no_name}

abbrev judged : Cursor → Result (List ℕ × Cursor) NdrBad → Result (List ℕ × Cursor) NdrBad
judged c read = read >>= λ x. cond (is_name x.0) (Ok x) (Err (Value (c.at + padding 4 c.at)))

abbrev found : List ℕ × Cursor → Result (List ℕ × Cursor) NdrBad
found x = Ok x

pub name_reads : (c new : Cursor) (units name : List ℕ) → (string 256).reads c ≡ Ok (units, new) → name ≡ units → IsName units → name_item.reads c ≡ Ok (name, new)
name_reads c new units name read same is =
    ap (judged c) read ∙ ap (λ b. cond b (found (units, new)) (Err (Value (c.at + padding 4 c.at)))) (name_true units is) ∙ ap (λ (u : List ℕ). found (u, new)) (sym same)

pub name_refused : (c new : Cursor) (units : List ℕ) → (string 256).reads c ≡ Ok (units, new) → (IsName units → ⊥) → name_item.reads c ≡ Err (Value (c.at + padding 4 c.at))
name_refused c new units read none = ap (judged c) read ∙ ap (λ b. cond b (found (units, new)) (Err (Value (c.at + padding 4 c.at)))) (no_name units none)

-- units that are refused as a name are none
pub not_a_name : (e : NameError) (at : ℕ) (units : List ℕ) → e ≡ NameBad at → IsRefused e units → IsName units → ⊥
not_a_name e at units is refused = (subst (λ (f : NameError). IsRefused f units) is refused).0
