-- What a coil cutter shows at a place: it is cut from a width that is read.
use Rattle.std.proofs.Common.{◌≡◌, ℕ, ◌+◌, ◌*◌, ◌/◌, ◌%◌, ◌<◌, min, ltb, List, length, get_or, take, Some, None, refl, subst, arith}
use Rattle.std.proofs.lemmas.Nat.{div_below, div-mul-add, mod-mul-add, mul-add-lt}
use Rattle.std.proofs.lemmas.List.{get_or-take, length-take}
use Rattle.std.proofs.lemmas.Bool.{cond_both, lt-ltb}
use Rattle.plates.specs.Size.{exists, sized}
use Rattle.supplies.specs.Coils.{coil_cut, coil_length, coil_places, coil_shows, CoilLaws}
use Rattle.supplies.specs.Shown.{Exists}

-- in rows of n places, the row of place k is one of the rows there are
row_below : (rows n k : ℕ) → k < rows * n → k / n < rows
row_below rows n k h = let some : 0 < n = grind arith in div_below k n rows some h

-- n is the number of steps cut, and p the place count
pub width_read : (widths : List ℕ) (steps n p k : ℕ) → n ≡ min steps 64 → p ≡ coil_places widths steps → k < p → k / n < min 8 (length widths)
width_read widths steps n p k en ep h =
    let rows = length (take 8 widths) in
    let all : p ≡ rows * n = cc in
    omega (arith, row_below rows n k (subst (λ m. k < m) all h), length-take 8 widths)

pub cut_shown : (family : ℕ) (widths : List ℕ) (first step steps n p l k : ℕ) → n ≡ min steps 64 → p ≡ coil_places widths steps → l ≡ coil_length first step (k % n) → k < p → sized (get_or widths (k / n) 0) l family ≡ coil_shows family widths first step steps k
cut_shown family widths first step steps n p l k en ep el h =
    let w : k / n < 8 = omega (arith, width_read widths steps n p k en ep h) in
    let e = get_or-take 8 widths (k / n) 0 w in
    let t = lt-ltb k p h in
    cc

-- place j * n + i lies in row j, at i
pub cut_placed : (family : ℕ) (widths : List ℕ) (first step steps j i : ℕ) → j < min 8 (length widths) → i < min steps 64 → coil_shows family widths first step steps (j * min steps 64 + i) ≡ sized (get_or widths j 0) (first + i * step) family
cut_placed family widths first step steps j i hj hi =
    let j-read : j < length (take 8 widths) = omega (arith, length-take 8 widths) in
    let below : j * min steps 64 + i < coil_places widths steps = omega (arith, mul-add-lt j (min steps 64) i (length (take 8 widths)) j-read hi) in
    let row = div-mul-add j (min steps 64) i hi in
    let at_i : first + i * step ≡ coil_length first step ((j * min steps 64 + i) % min steps 64) = simp (mod-mul-add j (min steps 64) i hi) in
    let shown = cut_shown family widths first step steps (min steps 64) (coil_places widths steps) (first + i * step) (j * min steps 64 + i) refl refl at_i below in
    cc

sized_exists : (w l f : ℕ) → Exists (sized w l f)
sized_exists w l f = cond_both (exists w l f) (Some (record { width = w; length = l; family = f })) None Exists (λ h. h) (λ _. tt)

pub coil_laws : (family : ℕ) (widths : List ℕ) (first step steps : ℕ) → CoilLaws family widths first step steps
coil_laws family widths first step steps =
    record {
      placed = cut_placed family widths first step steps;
      exist = λ k.
          cond_both (ltb k (coil_places widths steps)) (coil_cut family (take 8 widths) first step (min steps 64) k) None Exists
          (λ _. sized_exists (get_or (take 8 widths) (k / min steps 64) 0) (coil_length first step (k % min steps 64)) family)
          (λ _. tt);
    }
