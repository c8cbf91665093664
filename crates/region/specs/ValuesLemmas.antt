use Rattle.std.specs.Prelude.{◌≡◌, ℕ, zero, suc, ◌+◌, ◌-◌, ◌*◌, ◌<◌, ◌≤◌, List, [], ◌∷◌, ◌++◌, length, replicate, ◌≢◌, slice_index, slice_index_or, slice_set, refl}
use Rattle.std.proofs.Common.{sym, ap, ◌∙◌, ⊎_elim, arith, length-append}
use Rattle.std.proofs.lemmas.List.{map-append, get_or_append_left, get_or-append_right, get_or_at, set-append_left, get_or_past}
use Rattle.std.proofs.lemmas.Bool.{cases_lt}
use Rattle.abstraction.specs.Frames.{Frame, Framed, plus, zeros, later, assigned, pushed}
use Rattle.region.specs.Listed.{source}
use Rattle.region.specs.Laws.{values}
use Rattle.region.specs.Fills.{source_cases}

pub length_values : (n : ℕ) (f : Frame) → Framed n f → length (values f) ≡ 2 * n + 3
length_values n f h = omega (arith, length-append f.clocks (f.age ∷ (f.kept ++ f.kept_age ∷ f.elapsed ∷ [])), length-append f.kept (f.kept_age ∷ f.elapsed ∷ []), h.0, h.1)

pub values_later : (d : ℕ) (f : Frame) → values (later d f) ≡ plus d (values f)
values_later d f = sym (map-append (λ x. x + d) f.clocks (f.age ∷ (f.kept ++ f.kept_age ∷ f.elapsed ∷ [])) ∙ ap (λ l. plus d f.clocks ++ (f.age + d) ∷ l) (map-append (λ x. x + d) f.kept (f.kept_age ∷ f.elapsed ∷ [])))

zero_list : (n : ℕ) (xs : List ℕ) → ((j : ℕ) → slice_index xs j ≡ 0) → (j : ℕ) → slice_index (replicate n 0 ++ 0 ∷ xs) j ≡ 0
zero_list zero xs h zero = refl
zero_list zero xs h (suc j) = h j
zero_list (suc n) xs h zero = refl
zero_list (suc n) xs h (suc j) = zero_list n xs h j

past_zero : (j : ℕ) → ◌≡◌ {A = ℕ} (slice_index (0 ∷ []) j) 0
past_zero zero = refl
past_zero (suc j) = refl

pub values_zeros : (n j : ℕ) → slice_index (values (zeros n)) j ≡ 0
values_zeros n j = zero_list n (replicate n 0 ++ 0 ∷ 0 ∷ []) (λ k. zero_list n (0 ∷ []) past_zero k) j

pub values_clock : (n : ℕ) (f : Frame) (k : ℕ) → Framed n f → k < n → slice_index (values f) k ≡ slice_index f.clocks k
values_clock n f k h lt = get_or_append_left f.clocks (f.age ∷ (f.kept ++ f.kept_age ∷ f.elapsed ∷ [])) 0 k (omega (arith, h.0))

pub values_assigned : (n k v : ℕ) (f : Frame) → Framed n f → k < n → values (assigned k v f) ≡ slice_set (values f) k v
values_assigned n k v f h lt = sym (set-append_left f.clocks (f.age ∷ (f.kept ++ f.kept_age ∷ f.elapsed ∷ [])) k v (omega (arith, h.0)))

pub framed_pushed : (n v : ℕ) (f : Frame) → Framed n f → Framed n (pushed v f)
framed_pushed n v f h = (h.0, h.0)

pub values_age : (n : ℕ) (f : Frame) → Framed n f → slice_index (values f) n ≡ f.age
values_age n f h = get_or_at f.clocks f.age (f.kept ++ f.kept_age ∷ f.elapsed ∷ []) 0 n h.0

-- the frame above has the values of the one below, but its age
pub values_pushed : (n v : ℕ) (f : Frame) → n ≤ 3 → Framed n f → (j : ℕ) → (j ≢ n) → slice_index (values (pushed v f)) j ≡ slice_index (values f) (source n j)
values_pushed n v f le h j ne =
    let cs = f.clocks in
    let up : List ℕ = cs ++ f.age ∷ 0 ∷ [] in
    let low : List ℕ = f.kept ++ f.kept_age ∷ f.elapsed ∷ [] in
    ⊎_elim
    (λ a. get_or_append_left cs (v ∷ up) 0 j (omega (arith, h.0, a.0)) ∙ sym (get_or_append_left cs (f.age ∷ low) 0 j (omega (arith, h.0, a.0))) ∙ ap (λ i. slice_index (values f) i) (sym a.1))
    (λ a. ⊎_elim
    (λ b.
    let s = source n j in
    let past : slice_index_or (values (pushed v f)) j 0 ≡ slice_index_or (v ∷ up) (j - n) 0 = get_or-append_right cs (v ∷ up) n j 0 h.0 (omega (arith, b.0)) in
    let e : j - n ≡ suc s = omega (arith, b.2) in
    let here : slice_index_or (values (pushed v f)) j 0 ≡ slice_index_or up s 0 = past ∙ ap (λ i. slice_index (v ∷ up) i) e in
    ⊎_elim
    (λ (l : s < n). here ∙ get_or_append_left cs (f.age ∷ 0 ∷ []) 0 s (omega (arith, h.0)) ∙ sym (get_or_append_left cs (f.age ∷ low) 0 s (omega (arith, h.0))))
    (λ (g : n ≤ s).
    let q : s ≡ n = omega (arith, b.3) in
    here ∙ get_or_at cs f.age (0 ∷ []) 0 s (omega (arith, h.0)) ∙ sym (get_or_at cs f.age low 0 s (omega (arith, h.0))))
    (cases_lt s n))
    (λ b.
    let far : 2 * n + 2 ≤ j = ⊎_elim (λ e. absurd (ne e)) (λ g. g) b.0 in
    let none_below : slice_index_or (values f) (source n j) 0 ≡ 0 = get_or_past (values f) (source n j) 0 (omega (arith, b.1, length_values n f h)) in
    let past : slice_index_or (values (pushed v f)) j 0 ≡ slice_index_or (v ∷ up) (j - n) 0 = get_or-append_right cs (v ∷ up) n j 0 h.0 (omega arith) in
    let e : j - n ≡ suc (j - n - 1) = omega arith in
    let here : slice_index_or (values (pushed v f)) j 0 ≡ slice_index_or up (j - n - 1) 0 = past ∙ ap (λ i. slice_index (v ∷ up) i) e in
    let deep : slice_index_or up (j - n - 1) 0 ≡ slice_index_or (f.age ∷ 0 ∷ []) (j - n - 1 - n) 0 = get_or-append_right cs (f.age ∷ 0 ∷ []) n (j - n - 1) 0 h.0 (omega arith) in
    let e' : j - n - 1 - n ≡ suc (j - 2 * n - 2) = omega arith in
    here ∙ deep ∙ ap (λ i. slice_index (f.age ∷ 0 ∷ []) i) e' ∙ past_zero (j - 2 * n - 2) ∙ sym none_below)
    a)
    (source_cases n j)
