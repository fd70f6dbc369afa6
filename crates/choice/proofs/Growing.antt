-- A book that takes the rows of one place after another.
use Rattle.std.proofs.Common.{◌≡◌, ℕ, ◌+◌, ◌<◌, ◌≤◌, [], ◌∷◌, length, Some, Option, sym, subst, arith}
use Rattle.plates.specs.Size.{Size}
use Rattle.plates.specs.declared.turnings.Turning.{Turning}
use Rattle.plates.specs.declared.turnings.Turning.TheVariants.{Unturned, Turned}
use Rattle.plates.specs.declared.verdicts.Verdict.{Verdict}
use Rattle.choice.specs.declared.book.RowBook.{RowBook}
use Rattle.choice.specs.declared.explaining.ExplainRow.{ExplainRow}
use Rattle.choice.specs.Books.{memory, Grown, Stored}
use Rattle.choice.specs.Explaining.{explained, row_of, rows_at}
use Rattle.choice.proofs.Written.{grown_one, grown_more, length_grown}
use Rattle.choice.proofs.Rows.{explained_more, explained_within}

-- a plate's two rows, one after the other: there is room for the first, and then for the second
two_free : (v : Size → Turning → Verdict) (k : ℕ) (s : Size) {o : Option Size} (a : RowBook ExplainRow) → Some s ≡ o → a.used + length (rows_at v k o) ≤ length (memory a) → a.used + 2 ≤ length (memory a)
two_free v k s a e room = subst (λ o. a.used + length (rows_at v k o) ≤ length (memory a)) (sym e) room

pub room_for_first : (v : Size → Turning → Verdict) (k : ℕ) (s : Size) {o : Option Size} (a : RowBook ExplainRow) → Some s ≡ o → a.used + length (rows_at v k o) ≤ length (memory a) → a.used < length (memory a)
room_for_first v k s a e room = omega (arith, two_free v k s a e room)

pub room_for_second : (v : Size → Turning → Verdict) (k : ℕ) (s : Size) {o : Option Size} (a b : RowBook ExplainRow) (x : ExplainRow) → Some s ≡ o → a.used + length (rows_at v k o) ≤ length (memory a) → Stored a x b → b.used < length (memory b)
room_for_second v k s a b x e room st =
    let two = two_free v k s a e room in
    omega (arith, st.1, length_grown a b (x ∷ []) (omega (arith, two)) (grown_one a b x (omega (arith, two)) st))

pub pair_grown : (v : Size → Turning → Verdict) (k : ℕ) (s : Size) {o : Option Size} (a b c : RowBook ExplainRow) {x y : ExplainRow} → Some s ≡ o → a.used + length (rows_at v k o) ≤ length (memory a) → x ≡ row_of v k s Unturned → y ≡ row_of v k s Turned → Stored a x b → Stored b y c → Grown a (rows_at v k o) c
pair_grown v k s a b c {x = x} {y = y} e room ex ey g h =
    let first = grown_one a b x (room_for_first v k s a e room) g in
    let second = grown_one b c y (room_for_second v k s a b x e room g) h in
    subst (λ o. Grown a (rows_at v k o) c) e
    (subst (λ z. Grown a (z ∷ row_of v k s Turned ∷ []) c) ex
    (subst (λ z. Grown a (x ∷ z ∷ []) c) ey (grown_more a b c (x ∷ []) (y ∷ []) first second)))

-- with the rows of the places below k in it, the book has room for those of place k
pub place_room : (v : Size → Turning → Verdict) (k n : ℕ) (shows : ℕ → Option Size) (a b : RowBook ExplainRow) → k < n → a.used + length (explained v n shows) ≤ length (memory a) → Grown a (explained v k shows) b → b.used + length (rows_at v k (shows k)) ≤ length (memory b)
place_room v k n shows a b h room g =
    let w = explained_within v k n shows h in
    omega (arith, g.1, length_grown a b (explained v k shows) (omega arith) g)

pub place_grown : (v : Size → Turning → Verdict) (k : ℕ) (shows : ℕ → Option Size) (a b c : RowBook ExplainRow) → Grown a (explained v k shows) b → Grown b (rows_at v k (shows k)) c → Grown a (explained v (k + 1) shows) c
place_grown v k shows a b c g h =
    subst (λ rs. Grown a rs c) (sym (explained_more v k shows))
    (grown_more a b c (explained v k shows) (rows_at v k (shows k)) g h)
