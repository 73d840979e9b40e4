-- Laws of the rows: those still to put, that a buffer longer than the picture shows the picture, and where a character stands. Assumes nothing.
use mathlib.Core.Path.{◌≡◌, refl, sym, ap, ◌∙◌}
use mathlib.Core.List.{List, ◌++◌, map, append_assoc}
use Prim.Native.Nat.{ℕ, zero, suc, ◌+◌, ◌-◌, ◌*◌, ◌≤◌, ◌<◌}
use native.Mathlib.Nat.{mul-suc, suc-mul}
use native.Mathlib.Omega.{arith}
use lib.ListN.{length, take, drop, get_or, length-drop, get_or-append}
use lib.Seq.{take-append-le, drop-append-le, length-take-le, get_or-append-add, get_or-take, get_or-drop}
use Rattle.std.proofs.lemmas.List.{take-map, drop-map}
use Rattle.sheet.specs.Text.{line_end, rows_of}
use Rattle.sheet.specs.ChartComputed.{symbol_of}

-- THE ROWS STILL TO PUT

-- a row more fits
pub row_room : (k width height y room : ℕ) → y < height → k + width * (height - y) ≤ room → k + width + width * (height - (y + 1)) ≤ room
row_room k width height y room more h =
    let e : height - y ≡ suc (height - (y + 1)) = omega arith in
    let m = mul-suc width (height - (y + 1)) in
    omega (arith, m, rw e at h)

-- the rows left are the next one and those below it
row_next : (width height y : ℕ) (rest : List ℕ) → y < height
    → rows_of width (height - y) (map symbol_of rest)
    ≡ map symbol_of (take width rest) ++ line_end ++ rows_of width (height - (y + 1)) (map symbol_of (drop width rest))
unfolding rows_of
row_next width height y rest more =
    let e : height - y ≡ suc (height - (y + 1)) = omega arith in
    rw (e, take-map symbol_of width rest, drop-map symbol_of width rest)

-- a row put: the text with the rows left is still the whole text
pub row_put : (width height y : ℕ) (rest row below old new whole : List ℕ) → y < height → row ≡ take width rest → below ≡ drop width rest
    → new ≡ old ++ map symbol_of row ++ line_end
    → old ++ rows_of width (height - y) (map symbol_of rest) ≡ whole
    → new ++ rows_of width (height - (y + 1)) (map symbol_of below) ≡ whole
row_put width height y rest row below old new whole more e f g h =
    let shown = map symbol_of (take width rest) in
    let left = rows_of width (height - (y + 1)) (map symbol_of (drop width rest)) in
    rw (g, e, f)
    (ap (λ (t : List ℕ). t ++ left) (append_assoc old shown line_end)
    ∙ append_assoc old (shown ++ line_end) left
    ∙ ap (λ (t : List ℕ). old ++ t) (sym (row_next width height y rest more))
    ∙ h)

-- A LONGER BUFFER

-- rows look at no more characters than they have
pub rows_front : (width height : ℕ) (l m : List ℕ) → length l ≡ width * height → rows_of width height (l ++ m) ≡ rows_of width height l
unfolding rows_of
rows_front width zero l m e = refl
rows_front width (suc height) l m e =
    let s = mul-suc width height in
    let w : width ≤ length l = omega arith in
    rw (take-append-le width l m, drop-append-le width l m)
    (ap (λ (r : List ℕ). take width l ++ line_end ++ r) (rows_front width height (drop width l) m (omega (arith, length-drop width l))))

-- A CHARACTER'S PLACE

-- the character in a row and a column, each row with its line end, is the one that stands there without line ends
pub row_at : (width height : ℕ) (l : List ℕ) (row column : ℕ) → row < height → column < width → width * height ≤ length l
    → get_or (rows_of width height l) (row * (width + 1) + column) 0 ≡ get_or l (row * width + column) 0
unfolding rows_of
row_at width zero l row column h k m = absurd (omega arith)
row_at width (suc height) l row column h k m =
    ap (λ (t : List ℕ). get_or t (row * (width + 1) + column) 0) (append_assoc (take width l) line_end (rows_of width height (drop width l)))
    ∙ go row h (λ r b. row_at width height (drop width l) r column b k (omega (arith, fits, length-drop width l)))
  where
    fits : width + width * height ≤ length l
    fits = omega (arith, mul-suc width height)

    long : length (take width l) ≡ width
    long = length-take-le width l (omega (arith, fits))

    go : (r : ℕ) → r < suc height
        → ((r : ℕ) → r < height → get_or (rows_of width height (drop width l)) (r * (width + 1) + column) 0 ≡ get_or (drop width l) (r * width + column) 0)
        → get_or (take width l ++ (line_end ++ rows_of width height (drop width l))) (r * (width + 1) + column) 0 ≡ get_or l (r * width + column) 0
    go zero b ih =
        let e : zero * (width + 1) + column ≡ column = omega arith in
        let f : zero * width + column ≡ column = omega arith in
        rw (e, f) (get_or-append (take width l) (line_end ++ rows_of width height (drop width l)) 0 column (omega (arith, long)) ∙ get_or-take width l column 0 k)
    go (suc r) b ih =
        let e : suc r * (width + 1) + column ≡ length (take width l) + suc (r * (width + 1) + column) = omega (arith, long, suc-mul r (width + 1)) in
        let f : suc r * width + column ≡ width + (r * width + column) = omega (arith, suc-mul r width) in
        rw (e, f) (get_or-append-add (take width l) (line_end ++ rows_of width height (drop width l)) (suc (r * (width + 1) + column)) 0
        ∙ ih r (omega arith)
        ∙ get_or-drop width l (r * width + column) 0)
