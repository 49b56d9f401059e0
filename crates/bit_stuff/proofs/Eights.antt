-- Groups of values, and their bytes.
use Rattle.std.proofs.Common.{◌≡◌, ℕ, ◌+◌, ◌-◌, ◌*◌, ◌/◌, ◌%◌, ◌^◌, ◌<◌, ◌≤◌, List, [], ◌++◌, length, get_or, take, refl, sym, ap, ◌∙◌, arith}
use Rattle.std.proofs.lemmas.Nat.{mod_low, one_shl, pow-add, pow_pos, shl_whole, shr_below, shr_high, shr_split}
use Rattle.std.proofs.lemmas.List.{length-take-le}
use Rattle.std.proofs.Math.Nat.{mod-lt, mul-le-mul_left}
use borrow.Rule.Slice.PartMut.{put_mid}
use Rattle.byteorder.specs.Endian.{little_bytes}
use Rattle.bit_stuff.specs.Stuffed.{number_of_bytes, number_of_values}
use Rattle.bit_stuff.specs.inside.Group.{IsGroup}
use Rattle.bit_stuff.proofs.Fields.{values-nil, values-take}
use Rattle.bit_stuff.proofs.Buffers.{front_written}
use Rattle.bit_stuff.proofs.Numbers.{number-nil, number-append, number-little_bytes, length-little_bytes}

-- one value is a group
pub group_one : (w : ℕ) (vs : List ℕ) (i : ℕ) → i < length vs → get_or vs i 0 < 2 ^ w → IsGroup w vs i 1 (get_or vs i 0)
group_one w vs i lt below =
    let one : w * 1 ≡ w = omega arith in record {
      fits = rw one below;
      joined = values-take w vs i lt;
    }

-- two groups of one size, one behind the other, are a group
pub group_joined : (w : ℕ) (vs : List ℕ) (i j k n g h : ℕ) → j ≡ i + k → n ≡ k + k → IsGroup w vs i k g → IsGroup w vs j k h → IsGroup w vs i n (g + h * 2 ^ (w * k))
group_joined w vs i j k n g h next twice a b =
    let wide : w * n ≡ w * k + w * k = ap (λ (m : ℕ). w * m) twice ∙ omega arith in
    let square : 2 ^ (w * n) ≡ 2 ^ (w * k) * 2 ^ (w * k) = ap (λ (m : ℕ). 2 ^ m) wide ∙ pow-add 2 (w * k) (w * k) in
    let top : 2 ^ (w * k) * (h + 1) ≤ 2 ^ (w * k) * 2 ^ (w * k) = mul-le-mul_left (2 ^ (w * k)) (omega (arith, b.fits)) in
    let later : w * j ≡ w * i + w * k = ap (λ (m : ℕ). w * m) next ∙ omega arith in
    let power : 2 ^ (w * j) ≡ 2 ^ (w * i) * 2 ^ (w * k) = ap (λ (m : ℕ). 2 ^ m) later ∙ pow-add 2 (w * i) (w * k) in
    let end : i + n ≡ j + k = omega (arith, next, twice) in
    let before : number_of_values w (take j vs) ≡ number_of_values w (take i vs) + 2 ^ (w * i) * g = ap (λ (m : ℕ). number_of_values w (take m vs)) next ∙ a.joined in record {
      fits = omega (arith, square, top, a.fits);
      joined = ap (λ (m : ℕ). number_of_values w (take m vs)) end ∙ b.joined ∙ ap (λ (m : ℕ). number_of_values w (take j vs) + m * h) power ∙ omega (arith, before);
    }

-- bytes that were written at a place
pub piece_put : (out new rest : List ℕ) (at n x : ℕ) → at ≤ length out → x < 2 ^ (8 * n) → new ≡ little_bytes n x ++ rest
    → number_of_bytes (take (at + n) (put_mid at (length out - at) out new)) ≡ number_of_bytes (take at out) + 2 ^ (8 * at) * x
piece_put out new rest at n x h fits e =
    let piece = little_bytes n x in
    let front : take (at + n) (put_mid at (length out - at) out new) ≡ take at out ++ piece =
    ap (λ (ys : List ℕ). take (at + n) (put_mid at (length out - at) out ys)) e ∙ front_written out piece rest at (length out - at) n h (length-little_bytes n x) in
    ap number_of_bytes front ∙ number-append (take at out) piece
    ∙ ap (λ (m : ℕ). number_of_bytes (take at out) + 2 ^ (8 * m) * number_of_bytes piece) (length-take-le at out h)
    ∙ ap (λ (m : ℕ). number_of_bytes (take at out) + 2 ^ (8 * at) * m) (number-little_bytes n x fits)

-- a group behind the bytes of the values before it
pub group_put : (w : ℕ) (vs : List ℕ) (i at g before after : ℕ) → 8 * at ≡ w * i → before ≡ number_of_values w (take i vs) → IsGroup w vs i 8 g
    → after ≡ before + 2 ^ (8 * at) * g → after ≡ number_of_values w (take (i + 8) vs)
group_put w vs i at g before after place e group done =
    done ∙ ap (λ (m : ℕ). before + 2 ^ m * g) place ∙ ap (λ (m : ℕ). m + 2 ^ (w * i) * g) e ∙ sym group.joined

-- a number in two parts
pub parts_put : (at k g first after before : ℕ) → first ≡ before + 2 ^ (8 * at) * (g % 2 ^ (8 * k)) → after ≡ first + 2 ^ (8 * (at + k)) * (g / 2 ^ (8 * k)) → after ≡ before + 2 ^ (8 * at) * g
parts_put at k g first after before p q =
    let longer : 8 * (at + k) ≡ 8 * at + 8 * k = omega arith in
    let power : 2 ^ (8 * (at + k)) ≡ 2 ^ (8 * at) * 2 ^ (8 * k) = ap (λ (n : ℕ). 2 ^ n) longer ∙ pow-add 2 (8 * at) (8 * k) in
    q ∙ ap (λ (m : ℕ). first + m * (g / 2 ^ (8 * k))) power ∙ omega (arith, p, ap (λ (n : ℕ). 2 ^ (8 * at) * n) (shr_split g (8 * k)))

-- what is above the first k bytes has the bits above them
pub above_part : (g n k : ℕ) → k ≤ n → g < 2 ^ (8 * n) → g / 2 ^ (8 * k) < 2 ^ (8 * (n - k))
above_part g n k wide fits =
    let parts : 8 * n ≡ 8 * (n - k) + 8 * k = omega (arith, wide) in
    shr_below g (8 * (n - k)) (8 * k) (rw (← parts) fits)

pub part-lt : (g k : ℕ) → g % 2 ^ (8 * k) < 2 ^ (8 * k)
part-lt g k = mod-lt g (pow_pos (8 * k))

-- two numbers joined by a shift, cut below the joint
pub joint : (low high s t w : ℕ) → s + t ≡ w → low + high * 2 ^ w ≡ (low / 2 ^ s + high * 2 ^ t) * 2 ^ s + low % 2 ^ s
joint low high s t w e =
    let power : 2 ^ w ≡ 2 ^ s * 2 ^ t = ap (λ (k : ℕ). 2 ^ k) (sym e) ∙ pow-add 2 s t in
    ap (λ (n : ℕ). low + high * n) power ∙ omega (arith, shr_split low s)

pub joint_above : (low high s t w m : ℕ) → s + t ≡ w → high < 2 ^ w → w + t ≤ m → low / 2 ^ s + high * 2 ^ t % 2 ^ m ≡ (low + high * 2 ^ w) / 2 ^ s
joint_above low high s t w m e below fits =
    ap (λ (n : ℕ). low / 2 ^ s + n) (shl_whole high w t m below fits)
    ∙ sym (ap (λ (n : ℕ). n / 2 ^ s) (joint low high s t w e) ∙ shr_high (low / 2 ^ s + high * 2 ^ t) s (low % 2 ^ s) (mod-lt low (pow_pos s)))

pub joint_below : (low high s t w m : ℕ) → s + t ≡ w → s < m → low % (1 * 2 ^ s % 2 ^ m) ≡ (low + high * 2 ^ w) % 2 ^ s
joint_below low high s t w m e fits =
    ap (λ (n : ℕ). low % n) (one_shl s m fits)
    ∙ sym (ap (λ (n : ℕ). n % 2 ^ s) (joint low high s t w e) ∙ mod_low (low / 2 ^ s + high * 2 ^ t) s (low % 2 ^ s) (mod-lt low (pow_pos s)))

-- whole eights lie within the bytes
pub eights_within : (n w k : ℕ) → 8 * k + 8 ≤ n → w * k + w ≤ (n * w + 7) / 8
eights_within n w k h =
    let all : w * (8 * k + 8) ≤ w * n = mul-le-mul_left w h in
    omega (arith, all)

-- two groups of one size, joined by a shift in a word of m bits
pub group_shifted : (w : ℕ) (vs : List ℕ) (i k g h s m : ℕ) → s ≡ w * k → w * k + w * k ≤ m → IsGroup w vs i k g → IsGroup w vs (i + k) k h → IsGroup w vs i (k + k) (g + h * 2 ^ s % 2 ^ m)
group_shifted w vs i k g h s m e fits a b =
    let same : h * 2 ^ s % 2 ^ m ≡ h * 2 ^ (w * k) = ap (λ (u : ℕ). h * 2 ^ u % 2 ^ m) e ∙ shl_whole h (w * k) (w * k) m b.fits fits in
    let joined : IsGroup w vs i (k + k) (g + h * 2 ^ (w * k)) = group_joined w vs i (i + k) k (k + k) g h refl refl a b in
    rw same joined

pub nothing_put : (w n : ℕ) (vs out : List ℕ) → n ≡ 0 → number_of_bytes (take n out) ≡ number_of_values w []
nothing_put w n vs out e = ap (λ (k : ℕ). number_of_bytes (take k out)) e ∙ number-nil ∙ sym (values-nil w)

-- ---- eight values by fours

fours : (w : ℕ) (vs : List ℕ) (i low high : ℕ) → IsGroup w vs i 4 low → IsGroup w vs (i + 4) 4 high → IsGroup w vs i 8 (low + high * 2 ^ (w * 4))
fours w vs i low high a b = group_joined w vs i (i + 4) 4 8 low high refl refl a b

fours_above : (w : ℕ) (vs : List ℕ) (i low high : ℕ) → w ≤ 31 → IsGroup w vs (i + 4) 4 high
    → low / 2 ^ (8 * (w / 2)) + high * 2 ^ (4 * w - 8 * (w / 2)) % 2 ^ 128 ≡ (low + high * 2 ^ (w * 4)) / 2 ^ (8 * (w / 2))
fours_above w vs i low high narrow b = joint_above low high (8 * (w / 2)) (4 * w - 8 * (w / 2)) (w * 4) 128 (omega arith) b.fits (omega arith)

pub fours_rest : (w : ℕ) (vs : List ℕ) (i low high : ℕ) → w ≤ 31 → IsGroup w vs i 4 low → IsGroup w vs (i + 4) 4 high
    → low / 2 ^ (8 * (w / 2)) + high * 2 ^ (4 * w - 8 * (w / 2)) % 2 ^ 128 < 2 ^ (8 * (w - w / 2))
fours_rest w vs i low high narrow a b =
    let turned : w * 8 ≡ 8 * w = omega arith in
    let whole : low + high * 2 ^ (w * 4) < 2 ^ (8 * w) = rw (← turned) (fours w vs i low high a b).fits in
    rw (fours_above w vs i low high narrow b) (above_part (low + high * 2 ^ (w * 4)) w (w / 2) (omega arith) whole)

pub fours_put : (w : ℕ) (vs : List ℕ) (i at low high first after before : ℕ) → w ≤ 31 → IsGroup w vs i 4 low → IsGroup w vs (i + 4) 4 high
    → 8 * at ≡ w * i → before ≡ number_of_values w (take i vs)
    → first ≡ before + 2 ^ (8 * at) * (low % (1 * 2 ^ (8 * (w / 2)) % 2 ^ 128))
    → after ≡ first + 2 ^ (8 * (at + w / 2)) * (low / 2 ^ (8 * (w / 2)) + high * 2 ^ (4 * w - 8 * (w / 2)) % 2 ^ 128)
    → after ≡ number_of_values w (take (i + 8) vs)
fours_put w vs i at low high first after before narrow a b place e p q =
    let g : ℕ = low + high * 2 ^ (w * 4) in
    let under : low % (1 * 2 ^ (8 * (w / 2)) % 2 ^ 128) ≡ g % 2 ^ (8 * (w / 2)) = joint_below low high (8 * (w / 2)) (4 * w - 8 * (w / 2)) (w * 4) 128 (omega arith) (omega arith) in
    group_put w vs i at g before after place e (fours w vs i low high a b)
    (parts_put at (w / 2) g first after before (p ∙ ap (λ (n : ℕ). before + 2 ^ (8 * at) * n) under) (q ∙ ap (λ (n : ℕ). first + 2 ^ (8 * (at + w / 2)) * n) (fours_above w vs i low high narrow b)))
