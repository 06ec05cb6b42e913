use Rattle.std.proofs.Common.{rules, ◌≡◌, ◌-◌, ◌++◌, ◌∙◌, vec_len, List, ℕ, length, take, drop, ap, take_at, drop_at}
use Rattle.frs_disk.proofs.history.prepend.Goals as goal

rotated : (pool new both : List ℕ) (n : ℕ) → both ≡ pool ++ new → length pool ≡ n → drop n both ++ take n both ≡ new ++ pool
rotated pool new both n is count = ap (λ (l : List ℕ). drop n l ++ take n l) is ∙ (λ i. drop_at pool new n count i ++ take_at pool new n count i)

pub returns-clause-items : goal.returns-clause-items
returns-clause-items c =
    let count : length c.args.pool.now.items ≡ vec_len c.append.new.pool - length c.args.new.now = search rules in
    c.rotate_right.ensures.items ∙ rotated c.args.pool.now.items c.args.new.now c.append.new.pool.items (vec_len c.append.new.pool - length c.args.new.now) c.append.ensures.items count
