-- The mask that is written for marks.
use Rattle.std.proofs.Common.{◌≡◌, ℕ, ◌+◌, ◌-◌, ◌*◌, ◌/◌, ◌%◌, ◌^◌, ◌<◌, ◌≤◌, zero, suc, Bool, true, false, cond, List, [], ◌∷◌, ◌++◌, length, get_or, take, drop, map, replicate, refl, sym, ap, ◌∙◌, subst, arith, length-append, Option, None, ◌⊎◌, inl, inr, min}
use Rattle.std.specs.Prelude.{is_some, nat_eq, nat_le, ◌==◌, if◌then◌else◌, ◌||◌, fold, ℤ}
use Rattle.std.specs.List.{prefix_len, flat_map, range_with_len}
use Rattle.std.proofs.lemmas.Bool.{cases_lt, eqb-true, leb-true}
use Rattle.std.proofs.lemmas.Bool.Decides.{nat_tests}
use Rattle.std.proofs.lemmas.List.{ext_get_or, get_or_past, get_or-map, length-map, length-drop, length-replicate, drop_all}
use Rattle.std.proofs.lemmas.List.Sums.{prefix_len-le-length, sum_by-cons, count_by-le-length}
use Rattle.std.proofs.lemmas.List.FromFn.{length-map-range_with_len, get_or-map-range_with_len}
use borrow.Rule.Slice.PartMut.{put_mid}
use Rattle.bit_stuff.proofs.Buffers.{end_written}
use Rattle.std.proofs.Math.Nat.{mul-le-mul_left}
use Rattle.byteorder.specs.Endian.{little_bytes}
use Rattle.mask_runs.specs.Runs.{MaskPiece, Literal, Repeat, end_mark, piece_content}
use Rattle.mask_runs.specs.Chosen.{chosen_runs, chosen_pieces, piece_bytes, equal_bytes, before_repeat, first_piece}
use Rattle.mask_runs.proofs.Chosen.{pieces_go_on}
use Rattle.raster_values.specs.Raster.{Pixels, IsRaster, valid_count}
use Rattle.raster_values.specs.Order.{IsMaskOf}
use Rattle.raster_cells.specs.Masks.{mask_bit, marks_in}
use Rattle.raster_values.specs.Flat.{marks_of}
use Rattle.lerc_grammar.specs.Mask.{count_of, mask_size}
use Rattle.lerc_encode.specs.Masks.{bit_of, mask_byte, packed, are_alike, mask_runs_of, mask_part, runs_unless}

-- ---- the bytes of a mask

-- a byte is its eight bits
eight_bits : (b : ℕ) → b < 256
    → b ≡ 128 * (b / 2 ^ 7 % 2) + (64 * (b / 2 ^ 6 % 2) + (32 * (b / 2 ^ 5 % 2) + (16 * (b / 2 ^ 4 % 2) + (8 * (b / 2 ^ 3 % 2) + (4 * (b / 2 ^ 2 % 2) + (2 * (b / 2 ^ 1 % 2) + b / 2 ^ 0 % 2))))))
eight_bits b low = omega arith

-- a bit as a number
bit_is : (marks : List Bool) (k x : ℕ) → nat_eq (x % 2) 1 ≡ get_or marks k false → x % 2 ≡ bit_of marks k
bit_is marks k x e = by (get_or marks k false) e
  where
    by : (b : Bool) → nat_eq (x % 2) 1 ≡ b → x % 2 ≡ (if b then 1 else 0)
    by true h = eqb-true (x % 2) 1 h
    by false h = grind (arith, nat_tests, h)

-- bit number j of byte number i
at_bit : (mask : List ℕ) (marks : List Bool) → ((k : ℕ) → mask_bit mask k ≡ get_or marks k false) → (i j n : ℕ) → j < 8 → n ≡ 7 - j → get_or mask i 0 / 2 ^ n % 2 ≡ bit_of marks (i * 8 + j)
at_bit mask marks bits i j n low e =
    bit_is marks (i * 8 + j) (get_or mask i 0 / 2 ^ n)
    ((λ t. nat_eq (get_or mask (byte t) 0 / 2 ^ power t % 2) 1) ∙ bits (i * 8 + j))
  where
    byte : i ≡ (i * 8 + j) / 8
    byte = omega arith

    power : n ≡ 7 - (i * 8 + j) % 8
    power = omega arith

byte_is : (mask : List ℕ) (marks : List Bool) → ((k : ℕ) → get_or mask k 0 < 256) → ((k : ℕ) → mask_bit mask k ≡ get_or marks k false) → (i : ℕ) → get_or mask i 0 ≡ mask_byte marks (i * 8)
unfolding mask_byte
byte_is mask marks below bits i =
    let b = at_bit mask marks bits i in
    let zero_too : i * 8 + 0 ≡ i * 8 = omega arith in
    eight_bits (get_or mask i 0) (below i)
    ∙ (λ t. 128 * b 0 7 (omega arith) (omega arith) t + (64 * b 1 6 (omega arith) (omega arith) t + (32 * b 2 5 (omega arith) (omega arith) t + (16 * b 3 4 (omega arith) (omega arith) t
    + (8 * b 4 3 (omega arith) (omega arith) t + (4 * b 5 2 (omega arith) (omega arith) t + (2 * b 6 1 (omega arith) (omega arith) t + b 7 0 (omega arith) (omega arith) t)))))))
    ∙ ap (λ k. 128 * bit_of marks k + (64 * bit_of marks (i * 8 + 1) + (32 * bit_of marks (i * 8 + 2) + (16 * bit_of marks (i * 8 + 3) + (8 * bit_of marks (i * 8 + 4) + (4 * bit_of marks (i * 8 + 5) + (2 * bit_of marks (i * 8 + 6) + bit_of marks (i * 8 + 7)))))))) zero_too

pub length_packed : (marks : List Bool) → length (packed marks) ≡ mask_size (length marks)
unfolding packed
length_packed marks = length-map-range_with_len (λ i. mask_byte marks (i * 8)) 0 (mask_size (length marks))

-- bytes with the bits of marks are their mask
packed_is : (mask : List ℕ) (marks : List Bool) → length mask ≡ mask_size (length marks) → ((k : ℕ) → get_or mask k 0 < 256) → ((k : ℕ) → mask_bit mask k ≡ get_or marks k false) → mask ≡ packed marks
unfolding packed
packed_is mask marks size below bits =
    ext_get_or 0 mask (map (λ i. mask_byte marks (i * 8)) (range_with_len 0 (mask_size (length marks)))) (size ∙ sym (length-map-range_with_len (λ i. mask_byte marks (i * 8)) 0 (mask_size (length marks))))
    (λ i low. byte_is mask marks below bits i ∙ sym (get_or-map-range_with_len (λ j. mask_byte marks (j * 8)) 0 (mask_size (length marks)) i i 0 (omega (arith, low, size)) (omega arith)))

pub long_marks : (r : Pixels) → IsRaster r → length (marks_of r) ≡ r.rows * r.cols
long_marks r is = length-map r.pixels is_some ∙ is.places

pub mask_packed : (r : Pixels) (mask : List ℕ) → IsRaster r → IsMaskOf r mask → mask ≡ packed (marks_of r)
mask_packed r mask is m =
    let long = long_marks r is in
    packed_is mask (marks_of r) (m.size ∙ ap mask_size (sym long)) m.bytes (λ k. by k (cases_lt k (r.rows * r.cols)))
  where
    by : (k : ℕ) → (k < r.rows * r.cols) ⊎ (r.rows * r.cols ≤ k) → mask_bit mask k ≡ get_or (marks_of r) k false
    by k (inl low) = m.bits k low ∙ sym (get_or-map is_some r.pixels k None false (let places = is.places in omega (arith, low, places)))
    by k (inr past) = m.spare k past ∙ sym (get_or_past (marks_of r) k false (let long = long_marks r is in omega (arith, long, past)))

-- ---- runs

-- a piece gives some bytes of the mask, and takes no more than three for each
abbrev IsSmallPiece : List ℕ → MaskPiece → Type 0
IsSmallPiece mask p = (1 ≤ length (piece_content p)) × ((length (piece_content p) ≤ length mask) × (length (piece_bytes p) ≤ 3 * length (piece_content p)))

take_few : (n : ℕ) (xs : List ℕ) → length (take n xs) ≤ length xs
take_few zero xs = omega arith
take_few (suc n) [] = omega arith
take_few (suc n) (x ∷ xs) = let h = take_few n xs in omega (arith, h)

take_some : (n x : ℕ) (xs : List ℕ) → 0 < n → 1 ≤ length (take n (x ∷ xs))
take_some zero x xs some = absurd (omega (arith, some))
take_some (suc n) x xs some = omega arith

equal_few : (p : ℕ → Bool) (xs : List ℕ) → prefix_len p xs ≤ length xs
equal_few p xs = prefix_len-le-length p xs

small_piece : (x : ℕ) (xs : List ℕ) → IsSmallPiece (x ∷ xs) (first_piece (x ∷ xs))
small_piece x xs = by (nat_le 5 (equal_bytes (x ∷ xs))) refl
  where
    by : (b : Bool) → nat_le 5 (equal_bytes (x ∷ xs)) ≡ b
        → IsSmallPiece (x ∷ xs) (if b then Repeat (min (equal_bytes (x ∷ xs)) 32767) (get_or (x ∷ xs) 0 0) else Literal (take (min (if b then 0 else 1 + before_repeat xs) 32767) (x ∷ xs)))
    by true e =
        let many = leb-true 5 (equal_bytes (x ∷ xs)) e in
        let few = equal_few (λ byte. byte == get_or (x ∷ xs) 0 0) (x ∷ xs) in
        let long = length-replicate (min (equal_bytes (x ∷ xs)) 32767) (get_or (x ∷ xs) 0 0) in
        (omega (arith, many, long), (omega (arith, long, few), omega (arith, many, long)))
    by false e =
        let some = take_some (min (1 + before_repeat xs) 32767) x xs (omega arith) in
        let few = take_few (min (1 + before_repeat xs) 32767) (x ∷ xs) in
        (some, (few, omega (arith, some)))

pieces_small : (n : ℕ) (mask : List ℕ) → length mask ≤ n → length (flat_map piece_bytes (chosen_pieces mask)) ≤ 3 * length mask
pieces_small n [] short = omega arith
pieces_small zero (x ∷ xs) short = absurd (omega (arith, short))
pieces_small (suc n) (x ∷ xs) short =
    let mask = x ∷ xs in
    let p = first_piece mask in
    let small = small_piece x xs in
    let some = small.0 in
    let within = small.1.0 in
    let size = small.1.1 in
    let rest = drop (length (piece_content p)) mask in
    let long : length rest ≡ length mask - length (piece_content p) = length-drop (length (piece_content p)) mask in
    let later = pieces_small n rest (omega (arith, long, some, short)) in
    let more : length (flat_map piece_bytes (chosen_pieces mask)) ≡ length (piece_bytes p) + length (flat_map piece_bytes (chosen_pieces rest)) =
    ap (λ (ps : List MaskPiece). length (flat_map piece_bytes ps)) (pieces_go_on mask (omega arith)) ∙ length-append (piece_bytes p) (flat_map piece_bytes (chosen_pieces rest)) in
    omega (arith, later, more, size, within, long)

pub runs_small : (mask : List ℕ) → length (chosen_runs mask) ≤ 3 * length mask + 2
runs_small mask = let a = pieces_small (length mask) mask (omega arith) in let b = length-append (flat_map piece_bytes (chosen_pieces mask)) end_mark in omega (arith, a, b)

pub mask_few : (r : Pixels) → IsRaster r → length (mask_runs_of (marks_of r)) ≤ 6291458
unfolding mask_runs_of
mask_few r is = by (are_alike (marks_of r))
  where
    by : (b : Bool) → length (if b then [] else chosen_runs (packed (marks_of r))) ≤ 6291458
    by true = omega arith
    by false =
        let a = runs_small (packed (marks_of r)) in
        let b = length_packed (marks_of r) in
        let long = long_marks r is in
        let places = is.shape.size in
        let one : r.rows * r.cols * 1 ≤ r.rows * r.cols * r.depth = mul-le-mul_left (r.rows * r.cols) is.shape.depth_above in
        omega (arith, a, b, long, places, one)

pub packed_few : (r : Pixels) → IsRaster r → length (packed (marks_of r)) ≤ 2097152
packed_few r is =
    let b = length_packed (marks_of r) in
    let long = long_marks r is in
    let places = is.shape.size in
    let one : r.rows * r.cols * 1 ≤ r.rows * r.cols * r.depth = mul-le-mul_left (r.rows * r.cols) is.shape.depth_above in
    omega (arith, b, long, places, one)

-- the number of valid pixels is that of the marks
counted : (a : ℕ) (ps : List (Option (List ℤ))) → fold (λ b p. b + cond (is_some p) 1 0) a ps ≡ fold (λ b mark. b + cond mark 1 0) a (map is_some ps)
counted a [] = refl
counted a (p ∷ ps) = counted (a + cond (is_some p) 1 0) ps

pub count_marks : (r : Pixels) → valid_count r ≡ count_of (marks_of r)
count_marks r = counted 0 r.pixels

pub alike_is : (r : Pixels) → IsRaster r → (valid : ℕ) → valid ≡ valid_count r → (nat_eq valid 0 || nat_eq valid (r.rows * r.cols)) ≡ are_alike (marks_of r)
alike_is r is valid e = let c = e ∙ count_marks r in let l = sym (long_marks r is) in λ t. nat_eq (c t) 0 || nat_eq (c t) (l t)

pub alike_runs : (marks : List Bool) → are_alike marks ≡ true → mask_runs_of marks ≡ []
unfolding mask_runs_of
alike_runs marks e = ap (λ (b : Bool). if b then [] else chosen_runs (packed marks)) e

pub mixed_runs : (marks : List Bool) → are_alike marks ≡ false → mask_runs_of marks ≡ chosen_runs (packed marks)
unfolding mask_runs_of
mixed_runs marks e = ap (λ (b : Bool). if b then [] else chosen_runs (packed marks)) e

-- which runs are written
pub taken_runs : (taken : Bool) (marks : List Bool) → taken ≡ true → runs_unless taken marks ≡ []
taken_runs taken marks e = ap (λ (b : Bool). runs_unless b marks) e

pub no_runs : (taken : Bool) (marks : List Bool) → taken ≡ false → are_alike marks ≡ true → runs_unless taken marks ≡ []
no_runs taken marks e alike = ap (λ (b : Bool). runs_unless b marks) e ∙ alike_runs marks alike

pub some_runs : (taken : Bool) (marks : List Bool) → taken ≡ false → are_alike marks ≡ false → runs_unless taken marks ≡ chosen_runs (packed marks)
some_runs taken marks e mixed = ap (λ (b : Bool). runs_unless b marks) e ∙ mixed_runs marks mixed

-- what is written
pub none_written : (size : ℕ) (out old : List ℕ) → size ≡ 0 → length old ≡ 4 + size → out ≡ little_bytes 4 size ++ drop 4 old → out ≡ mask_part []
unfolding mask_part
none_written size out old none room wrote =
    wrote ∙ (λ t. little_bytes 4 (none t) ++ drop_all 4 old (omega (arith, room, none)) t)

pub runs_written : (runs : List ℕ) (size : ℕ) (out mid new old : List ℕ) → size ≡ length runs → length old ≡ 4 + size → mid ≡ little_bytes 4 size ++ drop 4 old → new ≡ runs
    → out ≡ put_mid 4 (length mid - 4) mid new → out ≡ mask_part runs
unfolding mask_part
runs_written runs size out mid new old is room wrote here e =
    let four : length (little_bytes 4 size) ≡ 4 = refl in
    let long : length mid ≡ 4 + length (drop 4 old) = ap length wrote ∙ length-append (little_bytes 4 size) (drop 4 old) in
    e ∙ ap (λ (xs : List ℕ). put_mid 4 (length mid - 4) xs new) wrote
    ∙ end_written (little_bytes 4 size) (drop 4 old) new 4 (length mid - 4) four (omega (arith, long))
    ∙ (λ t. little_bytes 4 (is t) ++ here t)

-- ---- the bits of the packed bytes are the marks

bit_low : (marks : List Bool) (k : ℕ) → bit_of marks k ≤ 1
bit_low marks k = by (get_or marks k false)
  where
    by : (b : Bool) → (if b then 1 else 0) ≤ 1
    by true = omega arith
    by false = omega arith

pub packed_below : (marks : List Bool) (k : ℕ) → get_or (packed marks) k 0 < 256
unfolding packed mask_byte
packed_below marks k = by (cases_lt k (mask_size (length marks)))
  where
    low : (i : ℕ) → mask_byte marks i < 256
    low i =
        let b0 = bit_low marks i in let b1 = bit_low marks (i + 1) in let b2 = bit_low marks (i + 2) in let b3 = bit_low marks (i + 3) in
        let b4 = bit_low marks (i + 4) in let b5 = bit_low marks (i + 5) in let b6 = bit_low marks (i + 6) in let b7 = bit_low marks (i + 7) in
        omega (arith, b0, b1, b2, b3, b4, b5, b6, b7)

    by : (k < mask_size (length marks)) ⊎ (mask_size (length marks) ≤ k) → get_or (map (λ i. mask_byte marks (i * 8)) (range_with_len 0 (mask_size (length marks)))) k 0 < 256
    by (inl below) = subst (λ n. n < 256) (sym (get_or-map-range_with_len (λ i. mask_byte marks (i * 8)) 0 (mask_size (length marks)) k k 0 below (omega arith))) (low (k * 8))
    by (inr past) = subst (λ n. n < 256) (sym (get_or_past (map (λ i. mask_byte marks (i * 8)) (range_with_len 0 (mask_size (length marks)))) k 0 (let l = length-map-range_with_len (λ i. mask_byte marks (i * 8)) 0 (mask_size (length marks)) in omega (arith, l, past)))) (omega arith)

-- bit number j of a sum of eight bits
bit_back : (a b c d e f g h : ℕ) → a ≤ 1 → b ≤ 1 → c ≤ 1 → d ≤ 1 → e ≤ 1 → f ≤ 1 → g ≤ 1 → h ≤ 1 → (j : ℕ) → j < 8
    → (128 * a + (64 * b + (32 * c + (16 * d + (8 * e + (4 * f + (2 * g + h))))))) / 2 ^ (7 - j) % 2 ≡ get_or (a ∷ b ∷ c ∷ d ∷ e ∷ f ∷ g ∷ h ∷ []) j 0
bit_back a b c d e f g h la lb lc ld le lf lg lh zero low = omega arith
bit_back a b c d e f g h la lb lc ld le lf lg lh (suc zero) low = omega arith
bit_back a b c d e f g h la lb lc ld le lf lg lh (suc (suc zero)) low = omega arith
bit_back a b c d e f g h la lb lc ld le lf lg lh (suc (suc (suc zero))) low = omega arith
bit_back a b c d e f g h la lb lc ld le lf lg lh (suc (suc (suc (suc zero)))) low = omega arith
bit_back a b c d e f g h la lb lc ld le lf lg lh (suc (suc (suc (suc (suc zero))))) low = omega arith
bit_back a b c d e f g h la lb lc ld le lf lg lh (suc (suc (suc (suc (suc (suc zero)))))) low = omega arith
bit_back a b c d e f g h la lb lc ld le lf lg lh (suc (suc (suc (suc (suc (suc (suc zero))))))) low = omega arith
bit_back a b c d e f g h la lb lc ld le lf lg lh (suc (suc (suc (suc (suc (suc (suc (suc j)))))))) low = absurd (omega (arith, low))

-- the same of marks, of which eight follow number k
eight_marks : (marks : List Bool) (k j : ℕ) → j < 8
    → get_or (bit_of marks k ∷ bit_of marks (k + 1) ∷ bit_of marks (k + 2) ∷ bit_of marks (k + 3) ∷ bit_of marks (k + 4) ∷ bit_of marks (k + 5) ∷ bit_of marks (k + 6) ∷ bit_of marks (k + 7) ∷ []) j 0 ≡ bit_of marks (k + j)
eight_marks marks k zero low = ap (bit_of marks) (let e : k ≡ k + 0 = omega arith in e)
eight_marks marks k (suc zero) low = refl
eight_marks marks k (suc (suc zero)) low = refl
eight_marks marks k (suc (suc (suc zero))) low = refl
eight_marks marks k (suc (suc (suc (suc zero)))) low = refl
eight_marks marks k (suc (suc (suc (suc (suc zero))))) low = refl
eight_marks marks k (suc (suc (suc (suc (suc (suc zero)))))) low = refl
eight_marks marks k (suc (suc (suc (suc (suc (suc (suc zero))))))) low = refl
eight_marks marks k (suc (suc (suc (suc (suc (suc (suc (suc j)))))))) low = absurd (omega (arith, low))

bit_test : (marks : List Bool) (k : ℕ) → nat_eq (bit_of marks k) 1 ≡ get_or marks k false
bit_test marks k = by (get_or marks k false)
  where
    by : (b : Bool) → nat_eq (if b then 1 else 0) 1 ≡ b
    by true = refl
    by false = refl

byte_bit : (marks : List Bool) (k j : ℕ) → j < 8 → mask_byte marks k / 2 ^ (7 - j) % 2 ≡ bit_of marks (k + j)
unfolding mask_byte
byte_bit marks k j low =
    bit_back (bit_of marks k) (bit_of marks (k + 1)) (bit_of marks (k + 2)) (bit_of marks (k + 3)) (bit_of marks (k + 4)) (bit_of marks (k + 5)) (bit_of marks (k + 6)) (bit_of marks (k + 7))
    (bit_low marks k) (bit_low marks (k + 1)) (bit_low marks (k + 2)) (bit_low marks (k + 3)) (bit_low marks (k + 4)) (bit_low marks (k + 5)) (bit_low marks (k + 6)) (bit_low marks (k + 7)) j low
    ∙ eight_marks marks k j low

packed_at : (marks : List Bool) (i : ℕ) → i < mask_size (length marks) → get_or (packed marks) i 0 ≡ mask_byte marks (i * 8)
unfolding packed
packed_at marks i low = get_or-map-range_with_len (λ j. mask_byte marks (j * 8)) 0 (mask_size (length marks)) i i 0 low (omega arith)

packed_bit : (marks : List Bool) (k : ℕ) → k < length marks → mask_bit (packed marks) k ≡ get_or marks k false
packed_bit marks k low =
    let i : k / 8 < mask_size (length marks) = omega arith in
    let whole : k / 8 * 8 + k % 8 ≡ k = omega arith in
    ap (λ b. nat_eq (b / 2 ^ (7 - k % 8) % 2) 1) (packed_at marks (k / 8) i)
    ∙ ap (λ b. nat_eq b 1) (byte_bit marks (k / 8 * 8) (k % 8) (omega arith) ∙ ap (bit_of marks) whole)
    ∙ bit_test marks k

pub packed_bits : (marks : List Bool) → marks_in (length marks) (packed marks) ≡ marks
unfolding marks_in
packed_bits marks =
    ext_get_or false (map (mask_bit (packed marks)) (range_with_len 0 (length marks))) marks (length-map-range_with_len (mask_bit (packed marks)) 0 (length marks))
    (λ k low. let l = length-map-range_with_len (mask_bit (packed marks)) 0 (length marks) in let below : k < length marks = omega (arith, l, low) in
    get_or-map-range_with_len (mask_bit (packed marks)) 0 (length marks) k k false below (omega arith) ∙ packed_bit marks k below)

-- ---- marks that are all alike

pub all_off : (marks : List Bool) → count_of marks ≡ 0 → marks ≡ replicate (length marks) false
all_off [] e = refl
all_off (true ∷ marks) e = absurd (let c = sum_by-cons (λ m. cond m 1 0) true marks in omega (arith, c, e))
all_off (false ∷ marks) e = ap (λ ms. false ∷ ms) (all_off marks (let c = sum_by-cons (λ m. cond m 1 0) false marks in omega (arith, c, e)))

pub all_on : (marks : List Bool) → count_of marks ≡ length marks → marks ≡ replicate (length marks) true
all_on [] e = refl
all_on (true ∷ marks) e = ap (λ ms. true ∷ ms) (all_on marks (let c = sum_by-cons (λ m. cond m 1 0) true marks in omega (arith, c, e)))
all_on (false ∷ marks) e = absurd (let c = sum_by-cons (λ m. cond m 1 0) false marks in let few = count_by-le-length (λ m. m) marks in omega (arith, c, e, few))
