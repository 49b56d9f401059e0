-- The maxima of the depths, from the lists.
use Rattle.std.proofs.Common.{◌≡◌, ℕ, ℤ, pos, ◌+◌, ◌-◌, ◌*◌, ◌<◌, Bool, List, ◌++◌, length, get_or, take, drop, Option, Some, None, refl, sym, ap, ◌∙◌, arith, inl, inr}
use Rattle.std.specs.Prelude.{if◌then◌else◌}
use Rattle.std.proofs.lemmas.Bool.{eq-eqb, ne_eqb}
use Rattle.std.proofs.lemmas.List.{append_assoc, drop-drop, drop_at, get_or-drop, length-append, length-drop, length-take-le, take-append-drop, take_at}
use Rattle.byteorder.specs.Endian.{little_number}
use Rattle.raster_cells.specs.declared.kind.PixelType.{PixelType}
use Rattle.raster_cells.specs.PixelType.{bytes_of, value_of, InRange}
use Rattle.lerc_header.specs.declared.header.Header.{Header}
use Rattle.lerc_header.specs.declared.header.Version.{Version}
use Rattle.lerc_header.specs.declared.header.Version.TheVariants.{V3, V4}
use Rattle.lerc_grammar.specs.Image.{Ends, IsFront, top_of}
use Rattle.lerc_grammar.specs.Outline.{HasLists}
use Rattle.lerc_decode.specs.declared.blob.maxima.Maxima.TheVariants.{One}
use Rattle.lerc_decode.specs.inside.Maxima.{AreMaximaOf, IsOneTop, top_in}

-- ---- one top for all depths

v3_top : (h : Header) (v : Version) (lists : List ℕ) (front : Option Ends) (d : ℕ) → v ≡ V3 → IsFront h v lists front → top_of h front d ≡ h.greatest
v3_top h V3 lists front d is f = ap (λ (x : Option Ends). top_of h x d) f.1
v3_top h V4 lists front d is f = absurd (cc)

depth_top : (h : Header) (front : Option Ends) (d : ℕ) → h.depth ≡ 1 → top_of h front d ≡ h.greatest
depth_top h None d one = refl
depth_top h (Some e) d one = ap (λ (b : Bool). if b then h.greatest else get_or e.greatest d (pos 0)) (eq-eqb h.depth 1 one)

its_top : (h : Header) (lists : List ℕ) (front : Option Ends) (d : ℕ) → IsOneTop h → IsFront h h.version lists front → top_of h front d ≡ h.greatest
its_top h lists front d (inl v) f = v3_top h h.version lists front d v f
its_top h lists front d (inr one) f = depth_top h front d one

pub one_top : (h : Header) (bytes : List ℕ) → IsOneTop h → InRange h.kind h.greatest → AreMaximaOf h bytes One
unfolding top_in
one_top h bytes is high = record {
  maxima_are = high;
  each = λ front behind l d low. sym (its_top h l.lists front d is l.stand);
}

-- ---- the list of the greatest values

-- the value at a place among values
abbrev pub value_at : PixelType → List ℕ → ℕ → ℤ
value_at kind bytes d = value_of kind (little_number (bytes_of kind) (drop (d * bytes_of kind) bytes))

-- behind the first of two lists of so many bytes stands the second
second_list : (lists behind : List ℕ) (one : ℕ) → length lists ≡ one + one → take one (drop one (lists ++ behind)) ≡ drop one lists
second_list lists behind one long =
    let joins : take one lists ++ (drop one lists ++ behind) ≡ lists ++ behind = sym (append_assoc (take one lists) (drop one lists) behind) ∙ ap (λ (u : List ℕ). u ++ behind) (take-append-drop one lists) in
    let first : length (take one lists) ≡ one = length-take-le one lists (omega (arith, long)) in
    let second : length (drop one lists) ≡ one = length-drop one lists ∙ (let t : length lists - one ≡ one = omega (arith, long) in t) in
    ap (λ (u : List ℕ). take one (drop one u)) (sym joins) ∙ ap (take one) (drop_at (take one lists) (drop one lists ++ behind) one first) ∙ take_at (drop one lists) behind one second

-- a value of the second list is one of both
second_value : (least greatest : List ℤ) (n d : ℕ) → length least ≡ n → get_or (least ++ greatest) (n + d) (pos 0) ≡ get_or greatest d (pos 0)
second_value least greatest n d long =
    sym (get_or-drop n (least ++ greatest) d (pos 0)) ∙ ap (λ (u : List ℤ). get_or u d (pos 0)) (drop_at least greatest n long)

listed_top : (h : Header) (v : Version) (lists behind : List ℕ) (front : Option Ends) (d size : ℕ) → v ≡ V4 → ¬ (h.depth ≡ 1) → IsFront h v lists front → size ≡ h.depth * bytes_of h.kind → d < h.depth
    → value_at h.kind (take size (drop size (lists ++ behind))) d ≡ top_of h front d
listed_top h V3 lists behind front d size is several f size_is low = absurd (cc)
listed_top h V4 lists behind front d size is several (e, (some, (l, (g, v)))) size_is low =
    let n = bytes_of h.kind in
    let count : length (e.least ++ e.greatest) ≡ h.depth + h.depth = omega (arith, length-append e.least e.greatest, l, g) in
    let long : length lists ≡ size + size = v.size ∙ ap (λ k. k * n) count ∙ (let t : (h.depth + h.depth) * n ≡ size + size = omega (arith, size_is) in t) in
    let place : size + d * n ≡ (h.depth + d) * n = omega (arith, size_is) in
    let there : drop (d * n) (take size (drop size (lists ++ behind))) ≡ drop ((h.depth + d) * n) lists =
    ap (drop (d * n)) (second_list lists behind size long) ∙ drop-drop (d * n) size lists ∙ ap (λ k. drop k lists) place in
    ap (λ (u : List ℕ). value_of h.kind (little_number n u)) there ∙ sym (v.each (h.depth + d) (omega (arith, count, low))) ∙ second_value e.least e.greatest h.depth d l
    ∙ sym (ap (λ (b : Bool). if b then h.greatest else get_or e.greatest d (pos 0)) (ne_eqb h.depth 1 several)) ∙ ap (λ (x : Option Ends). top_of h x d) (sym some)

pub which_version : (v : Version) → ¬ (v ≡ V3) → v ≡ V4
which_version V3 other = absurd (other refl)
which_version V4 other = refl

pub listed_maxima : (h : Header) (bytes : List ℕ) (size : ℕ) → ¬ IsOneTop h → size ≡ h.depth * bytes_of h.kind → (front : Option Ends) (behind : List ℕ) → HasLists h bytes front behind
    → (d : ℕ) → d < h.depth → value_at h.kind (take size (drop size bytes)) d ≡ top_of h front d
listed_maxima h bytes size several size_is front behind l d low =
    ap (λ (u : List ℕ). value_at h.kind (take size (drop size u)) d) l.joined
    ∙ listed_top h h.version l.lists behind front d size (which_version h.version (λ v. several (inl v))) (λ one. several (inr one)) l.stand size_is low
