-- Blobs of floating-point numbers are read in one way, and have one first fault at most.
use Rattle.std.proofs.Common.{◌≡◌, inl, inr, ℕ, suc, pos, ◌+◌, ◌<◌, ◌≤◌, List, [], ◌∷◌, ◌++◌, All, length, take, drop, sym, ap, subst, ◌∙◌, arith}
use Rattle.std.specs.Prelude.{codes}
use Rattle.std.specs.List.{concat}
use Rattle.std.proofs.lemmas.List.{append_assoc, length-append}
use Rattle.std.proofs.Math.Seq.{take-append_seam}
use Rattle.first_fault.specs.Faults.{ends, none}
use Rattle.first_fault.specs.Parts.{IsSingle}
use Rattle.first_fault.proofs.Parts.{empty-ends, same_rest, single-choice, single-ends, single-unless, single-none}
use Rattle.lerc_header.specs.declared.fault.BlobReason.TheVariants.{FloatPixels, Truncated, BadChecksum, Leftover}
use Rattle.lerc_header.specs.declared.header.Version.{Version}
use Rattle.lerc_header.specs.Checksum.{sum_of}
use Rattle.lerc_header.specs.Head.{head_length, i32_at, shift, u32_at}
use Rattle.lerc_header.specs.HeadFaults.{HasVersion}
use Rattle.lerc_header.proofs.FaultLemmas.{empty-header, one_version, single-header}
use Rattle.lerc_header.proofs.HeadLemmas.{number_once}
use Rattle.lerc_header.proofs.Prefixes.{HaveSame, same_front}
use Rattle.lerc_grammar.specs.declared.bands.BandReason.{BandReason}
use Rattle.lerc_grammar.specs.declared.bands.BandReason.TheVariants.{Blob as OfBlob}
use Rattle.tile_audit.specs.Sums.{AreSummed, FloatFault, IsFloatHead, IsFloats, IsNext, IsSummed, IsSummedBlob, SumFaultAt, in_bytes, in_head, next_sum_faults, of_wholes, size_faults}
use Rattle.tile_audit.proofs.Floats.{found_so, more_floats}

-- ---- one blob

long_so : (v : Version) (a : List ℕ) → IsFloatHead v a → head_length v ≤ length a
long_so v a head = (found_so v a head).long

-- the bytes of a blob's header, whatever follows
front_of : (v : Version) (a s : List ℕ) → IsFloatHead v a → HaveSame (head_length v) a (a ++ s)
front_of v a s head = same_front (head_length v) a s (omega arith) (long_so v a head)

-- how long a blob is says its header
same_length : (a b s t : List ℕ) (v w : Version) → IsSummedBlob v a → IsSummedBlob w b → a ++ s ≡ b ++ t → length a ≡ length b
same_length a b s t v w x y joined =
    let ha = front_of v a s x.head in
    let hb = front_of w b t y.head in
    let there : HasVersion b v = hb.i32 6 (omega arith) ∙ ap (λ l. i32_at l 6) (sym joined) ∙ sym (ha.i32 6 (omega arith)) ∙ (found_so v a x.head).version in
    let e : w ≡ v = one_version b w v (found_so w b y.head).version there in
    let size : i32_at b (30 + shift v) ≡ pos (length b) = subst (λ u. i32_at b (30 + shift u) ≡ pos (length b)) e y.size in
    let front : HaveSame (head_length v) b (b ++ t) = subst (λ u. HaveSame (head_length u) b (b ++ t)) e hb in
    let read : i32_at a (30 + shift v) ≡ i32_at b (30 + shift v) = ha.i32 (30 + shift v) (omega arith) ∙ ap (λ l. i32_at l (30 + shift v)) joined ∙ sym (front.i32 (30 + shift v) (omega arith)) in
    number_once (length a) (length b) (i32_at a (30 + shift v)) x.size (read ∙ size)

pub blob_once : (a b s t : List ℕ) → IsSummed a → IsSummed b → a ++ s ≡ b ++ t → a ≡ b
blob_once a b s t (v, x) (w, y) joined =
    sym (take-append_seam a s) ∙ (λ i. take (same_length a b s t v w x y joined i) (joined i)) ∙ take-append_seam b t

-- a blob has no fault, whatever follows
size_none : (b t : List ℕ) (size : ℕ) (p : ℕ) (r : BandReason) → size ≡ length b → u32_at (b ++ t) 10 ≡ sum_of (drop 14 b) → size_faults (b ++ t) size p r → ⊥
size_none b t size p r is sum (inr (far, w)) = far (omega (arith, is, length-append b t))
size_none b t size p r is sum (inl (long, inr (far, w))) = far (sum ∙ ap (λ l. sum_of (drop 14 l)) (sym (take-append_seam b t) ∙ ap (λ n. take n (b ++ t)) (sym is)))
size_none b t size p r is sum (inl (long, inl (same, never))) = never

pub blob_none : (b t : List ℕ) (p : ℕ) (r : BandReason) → IsSummed b → FloatFault (b ++ t) p r → ⊥
blob_none b t p r (v, x) (in_head why not w is) = not (single-header (b ++ t) p (34 + shift v) why FloatPixels w (more_floats v b t x.head).float).1
blob_none b t p r (v, x) (of_wholes h head w) = empty-header (b ++ t) h head (34 + shift v) FloatPixels (more_floats v b t x.head).float
blob_none b t p r (v, x) (in_bytes w size head is faults) =
    let front = front_of v b t x.head in
    let e : w ≡ v = one_version (b ++ t) w v head.version (more_floats v b t x.head).version in
    let there : i32_at (b ++ t) (30 + shift v) ≡ pos size = subst (λ u. i32_at (b ++ t) (30 + shift u) ≡ pos size) e is in
    let len : size ≡ length b = number_once size (length b) (i32_at (b ++ t) (30 + shift v)) there (sym (front.i32 (30 + shift v) (omega arith)) ∙ x.size) in
    size_none b t size p r len (sym (front.u32 10 (omega arith)) ∙ x.sum) faults

-- bytes have one fault at most
single_size : (bytes : List ℕ) (size : ℕ) → IsSingle (size_faults bytes size)
single_size bytes size =
    single-unless (size ≤ length bytes) (OfBlob Truncated) (length bytes) _
    (single-unless (u32_at bytes 10 ≡ sum_of (drop 14 (take size bytes))) (OfBlob (BadChecksum (u32_at bytes 10) (sum_of (drop 14 (take size bytes))))) 10 none single-none)

same_size : (bytes : List ℕ) (v w : Version) (m n : ℕ) → IsFloatHead v bytes → IsFloatHead w bytes → i32_at bytes (30 + shift v) ≡ pos m → i32_at bytes (30 + shift w) ≡ pos n → m ≡ n
same_size bytes v w m n x y is so =
    let e : w ≡ v = one_version bytes w v y.version x.version in
    number_once m n (i32_at bytes (30 + shift v)) is (subst (λ u. i32_at bytes (30 + shift u) ≡ pos n) e so)

single_float : (bytes : List ℕ) → IsSingle (FloatFault bytes)
single_float bytes p q a b (in_head why not w is) (in_head how nor x so) =
    let same = single-header bytes p q why how w x in
    (same.0, is ∙ ap (λ z. OfBlob z) same.1 ∙ sym so)
single_float bytes p q a b (in_head why not w is) (of_wholes h head x) = absurd (empty-header bytes h head p why w)
single_float bytes p q a b (in_head why not w is) (in_bytes v size head so x) = absurd (not (single-header bytes p (34 + shift v) why FloatPixels w head.float).1)
single_float bytes p q a b (of_wholes h head x) (in_head why not w is) = absurd (empty-header bytes h head q why w)
single_float bytes p q a b (of_wholes h head x) (of_wholes k feet y) =
    let e : h.version ≡ k.version = one_version bytes h.version k.version head.version feet.version in
    (x.0 ∙ ap (λ (v : Version). 34 + shift v) e ∙ sym y.0, x.1 ∙ sym y.1)
single_float bytes p q a b (of_wholes h head x) (in_bytes v size float so y) = absurd (empty-header bytes h head (34 + shift v) FloatPixels float.float)
single_float bytes p q a b (in_bytes v size head so x) (in_head why not w is) = absurd (not (single-header bytes q (34 + shift v) why FloatPixels w head.float).1)
single_float bytes p q a b (in_bytes v size float so y) (of_wholes h head x) = absurd (empty-header bytes h head (34 + shift v) FloatPixels float.float)
single_float bytes p q a b (in_bytes v m head is x) (in_bytes w n feet so y) =
    let same = same_size bytes v w m n head feet is so in
    single_size bytes m p q a b x (subst (λ k. size_faults bytes k q b) (sym same) y)

-- ---- blobs, one behind the other

single_next : (count : ℕ) (rest : List ℕ) → IsSingle (next_sum_faults count rest)
single_next count rest = single-choice (IsNext count rest) (FloatFault rest) (ends (OfBlob Leftover) rest) (single_float rest) (single-ends (OfBlob Leftover) rest)

-- where a blob stands, none is wrong
next_none : (count : ℕ) (b t : List ℕ) (p : ℕ) (r : BandReason) → count < 16 → IsSummed b → next_sum_faults count (b ++ t) p r → ⊥
next_none count b t p r few blob (inl (next, fault)) = blob_none b t p r blob fault
next_none count b t p r few (v, x) (inr (not, left)) = not (inr (few, (found_so v (b ++ t) (more_floats v b t x.head)).key))

-- nor where nothing is left
end_none : (count : ℕ) (p : ℕ) (r : BandReason) → 0 < count → next_sum_faults count [] p r → ⊥
end_none count p r some (inl (inl first, fault)) = omega (arith, some, first)
end_none count p r some (inl (inr (few, key), fault)) = (let bad : [] ≡ codes "Lerc2 " = key in cc)
end_none count p r some (inr (not, left)) = empty-ends (OfBlob Leftover) p r left

first_all : (x : List ℕ) (xs : List (List ℕ)) → All IsSummed (x ∷ xs) → IsSummed x
first_all x xs all = all 0 x (omega arith)

rest_all : (x : List ℕ) (xs : List (List ℕ)) → All IsSummed (x ∷ xs) → All IsSummed xs
rest_all x xs all = λ k d less. all (suc k) d (omega (arith, less))

-- one blob more in front
step : (x y : List ℕ) (xs ys : List (List ℕ)) (s t : List ℕ) → IsSummed x → IsSummed y → concat (x ∷ xs) ++ s ≡ concat (y ∷ ys) ++ t → (x ≡ y) × (concat xs ++ s ≡ concat ys ++ t)
step x y xs ys s t one two joined =
    let parted : x ++ (concat xs ++ s) ≡ y ++ (concat ys ++ t) = sym (append_assoc x (concat xs) s) ∙ joined ∙ append_assoc y (concat ys) t in
    let same = blob_once x y (concat xs ++ s) (concat ys ++ t) one two parted in
    (same, same_rest x y (concat xs ++ s) (concat ys ++ t) same parted)

-- two ways to a fault are one
pub faults_same : (count n m : ℕ) (xs ys : List (List ℕ)) (s t : List ℕ) (p q : ℕ) (a b : BandReason) → n ≡ count + length xs → m ≡ count + length ys → n ≤ 16 → m ≤ 16
    → All IsSummed xs → All IsSummed ys → concat xs ++ s ≡ concat ys ++ t → next_sum_faults n s p a → next_sum_faults m t q b → (length (concat xs) + p ≡ length (concat ys) + q) × (a ≡ b)
faults_same count n m [] [] s t p q a b isn ism fn fm all each joined x y =
    let here : next_sum_faults n s q b = subst (λ l. next_sum_faults n l q b) (sym joined) (subst (λ k. next_sum_faults k t q b) (let e : m ≡ n = omega (arith, isn, ism) in e) y) in
    let same = single_next n s p q a b x here in
    (ap (λ k. 0 + k) same.0, same.1)
faults_same count n m [] (y ∷ ys) s t p q a b isn ism fn fm all each joined x z =
    absurd (next_none n y (concat ys ++ t) p a (omega (arith, isn, ism, fm)) (first_all y ys each) (subst (λ l. next_sum_faults n l p a) (joined ∙ append_assoc y (concat ys) t) x))
faults_same count n m (x ∷ xs) [] s t p q a b isn ism fn fm all each joined z y =
    absurd (next_none m x (concat xs ++ s) q b (omega (arith, isn, ism, fn)) (first_all x xs all) (subst (λ l. next_sum_faults m l q b) (sym joined ∙ append_assoc x (concat xs) s) y))
faults_same count n m (x ∷ xs) (y ∷ ys) s t p q a b isn ism fn fm all each joined u w =
    let both = step x y xs ys s t (first_all x xs all) (first_all y ys each) joined in
    let rest = faults_same (count + 1) n m xs ys s t p q a b (omega (arith, isn)) (omega (arith, ism)) fn fm (rest_all x xs all) (rest_all y ys each) both.1 u w in
    let long : length x ≡ length y = ap length both.0 in
    (omega (arith, rest.0, long, length-append x (concat xs), length-append y (concat ys)), rest.1)

-- whole blobs, and a fault
pub whole_none : (count m : ℕ) (xs ys : List (List ℕ)) (t : List ℕ) (q : ℕ) (b : BandReason) → m ≡ count + length ys → m ≤ 16 → count + length xs ≤ 16 → 0 < count + length xs
    → All IsSummed xs → All IsSummed ys → concat xs ≡ concat ys ++ t → next_sum_faults m t q b → ⊥
whole_none count m [] [] t q b ism fm few some all each joined y =
    end_none m q b (omega (arith, ism, some)) (subst (λ l. next_sum_faults m l q b) (sym joined) y)
whole_none count m [] (y ∷ ys) t q b ism fm few some all each joined z =
    let (v, x) = first_all y ys each in
    let long = long_so v y x.head in
    let none : 0 ≡ length ((y ++ concat ys) ++ t) = ap length joined in
    omega (arith, long, none, length-append (y ++ concat ys) t, length-append y (concat ys))
whole_none count m (x ∷ xs) [] t q b ism fm few some all each joined y =
    next_none m x (concat xs) q b (omega (arith, ism, few)) (first_all x xs all) (subst (λ l. next_sum_faults m l q b) (sym joined) y)
whole_none count m (x ∷ xs) (y ∷ ys) t q b ism fm few some all each joined z =
    let parted : x ++ concat xs ≡ y ++ (concat ys ++ t) = joined ∙ append_assoc y (concat ys) t in
    let same = blob_once x y (concat xs) (concat ys ++ t) (first_all x xs all) (first_all y ys each) parted in
    whole_none (count + 1) m xs ys t q b (omega (arith, ism)) fm (omega (arith, few)) (omega arith) (rest_all x xs all) (rest_all y ys each) (same_rest x y (concat xs) (concat ys ++ t) same parted) z

-- ---- tiles

pub sum_fault_once : (bytes : List ℕ) → IsSingle (SumFaultAt bytes)
sum_fault_once bytes p q a b x y =
    let same = faults_same 0 (length x.blobs) (length y.blobs) x.blobs y.blobs x.rest y.rest x.next.0 y.next.0 a b (omega arith) (omega arith) x.few y.few x.each y.each (sym x.joined ∙ y.joined) x.next.1.1 y.next.1.1 in
    (x.next.1.0 ∙ same.0 ∙ sym y.next.1.0, same.1)

pub summed_none : (bytes : List ℕ) (q : ℕ) (b : BandReason) → AreSummed bytes → SumFaultAt bytes q b → ⊥
summed_none bytes q b x y =
    whole_none 0 (length y.blobs) x.blobs y.blobs y.rest y.next.0 b (omega arith) y.few (omega (arith, x.few)) (omega (arith, x.some)) x.each y.each (sym x.joined ∙ y.joined) y.next.1.1

floats_in : (blobs : List (List ℕ)) (bytes : List ℕ) → bytes ≡ concat blobs → 1 ≤ length blobs → All IsSummed blobs → IsFloats bytes
floats_in [] bytes joined some all = absurd (omega (arith, some))
floats_in (x ∷ xs) bytes joined some all =
    let (v, blob) = first_all x xs all in
    (v, subst (IsFloatHead v) (sym joined) (more_floats v x (concat xs) blob.head))

pub summed_floats : (bytes : List ℕ) → AreSummed bytes → IsFloats bytes
summed_floats bytes x = floats_in x.blobs bytes x.joined x.some x.each
