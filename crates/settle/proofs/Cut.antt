use Rattle.std.proofs.Common.{◌≡◌, ℕ, ◌+◌, ◌-◌, ◌<◌, ◌≤◌, List, ◌++◌, length, take, drop, IfSome, option_map, Some, None, Option, sym, ap, ◌∙◌, ⊎_elim, append-nil, le_refl, drop_at, length-take-le, take_all, take-add}
use Rattle.std.proofs.lemmas.List.{take-append-le}
use Rattle.std.proofs.lemmas.Bool.{cases_lt}
use Rattle.std.proofs.lemmas.Slice.{take-put_mid_below}
use Rattle.std.specs.Io.KnownBytes.{Consumes, IsAtEnd}
use borrow.Rule.Slice.PartMut.{put_mid, post_of}

-- what was read, to the end or to m bytes, is the first m bytes of what was there
pub cut : (a b : Option (List ℕ)) (bs : List ℕ) (m : ℕ) → Consumes a b bs → length bs ≤ m → (length bs < m → IsAtEnd b) → IfSome (option_map (take {A = ℕ} m) a) (λ xs. bs ≡ xs)
cut None b bs m c le end = tt
cut (Some xs) None bs m c le end = absurd c
cut (Some xs) (Some ys) bs m c le end = ⊎_elim
    (λ (lt : length bs < m). sym (ap (take m) (c ∙ ap (λ l. bs ++ l) (end lt) ∙ append-nil bs) ∙ take_all m bs le))
    (λ (ge : m ≤ length bs). sym (ap (take m) c ∙ take-append-le m bs ys ge ∙ take_all m bs le))
    (cases_lt (length bs) m)

-- a buffer filled up to n, and then by k bytes of what was read behind n
pub filled : (xs ys : List ℕ) (n k : ℕ) → n ≤ length xs → k ≤ length ys → take n xs ++ take k ys ≡ take (n + k) (put_mid n (length xs - n) xs ys)
filled xs ys n k le few =
    let all = put_mid n (length xs - n) xs ys in
    let rest = ys ++ post_of n (length xs - n) xs in
    let back : take k (drop n all) ≡ take k ys = ap (take k) (drop_at (take n xs) rest n (length-take-le n xs le)) ∙ take-append-le k ys _ few in
    sym (take-add n k all ∙ ap (λ l. l ++ take k (drop n all)) (take-put_mid_below _ _ _ _ _ (le_refl _) le) ∙ ap (λ l. take n xs ++ l) back)
