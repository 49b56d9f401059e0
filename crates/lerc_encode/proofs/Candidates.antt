-- The choice among the forms of an image's values.
use Rattle.std.proofs.Common.{◌≡◌, ℕ, ◌+◌, ◌*◌, ◌<◌, ◌≤◌, ◌⊎◌, inl, inr, [], length-append, zero, suc, Bool, true, false, List, ◌∷◌, length, get_or, map, refl, sym, ap, ◌∙◌, subst, arith, Option, Some, None}
use Rattle.std.specs.Prelude.{◌&&◌, unwrap_or, MatchOption}
use Rattle.std.specs.Option.{option_map}
use Rattle.raster_values.specs.Raster.{Pixels}
use Rattle.lerc_header.specs.declared.header.Header.{Header}
use Rattle.lerc_header.specs.declared.header.Version.{Version}
use Rattle.delta_mode.specs.Deltas.{plain as plain_symbols}
use Rattle.micro_block.specs.Fewest.{allowed, first_least, IsFirstLeast}
use Rattle.micro_block.proofs.Fewest.{At, at_first}
use Rattle.micro_block.proofs.Steps.{by_sizes, sized}
use Rattle.lerc_encode.specs.Codings.{coding_bytes, have_codes}
use Rattle.lerc_encode.specs.Images as images
use Rattle.lerc_encode.specs.Images.{CodedForm, blocks_bytes, mode_bytes, coded_form_bytes, coded_forms, chosen_coded_form, all_deltas, may_be_delta, may_be_plain}
use Rattle.lerc_encode.specs.inside.Coded.{AreCodings, AreSymbols, HasSymbols}
use Rattle.lerc_encode.specs.inside.Choosing.{IsBase, IsChosen, named, form_at}
use Rattle.lerc_encode.specs.inside.Blocked.{IsMeasured}
use Rattle.lerc_encode.specs.Heads.{header_of}
use Rattle.lerc_encode.specs.declared.blocks.chosen_blocks.Measured.{Measured}
use Rattle.lerc_encode.specs.declared.image.forms.ValueForm.{ValueForm}
use Rattle.lerc_encode.specs.declared.code_words.codings.Coding.{Coding}
use Rattle.lerc_encode.specs.declared.code_words.codings.Codings.{Codings}
use Rattle.lerc_encode.proofs.Forming.{small_is, large_is}
use Rattle.lerc_encode.proofs.Standing.{MayBe}

some_same : {A : Type 0} (x y : A) → Some x ≡ Some y → x ≡ y
some_same x y e = cc

-- how many bytes a form takes
abbrev pub size_of : Pixels → Version → ℕ → CodedForm → ℕ
size_of r version step form = length (coded_form_bytes r version step form)

-- ---- a form that is taken may be taken

may_there : (r : Pixels) (version : Version) (step i : ℕ) (form : CodedForm) → get_or (coded_forms r version step) i None ≡ Some form → MayBe r version step form
may_there r version step zero form e = subst (MayBe r version step) (some_same images.sweep form e) tt
may_there r version step (suc zero) form e = subst (MayBe r version step) (some_same images.blocks_8 form e) tt
may_there r version step (suc (suc zero)) form e = subst (MayBe r version step) (some_same images.blocks_16 form e) tt
may_there r version step (suc (suc (suc zero))) form e = by (may_be_delta r step) refl e
  where
    by : (b : Bool) → may_be_delta r step ≡ b → allowed b images.delta ≡ Some form → MayBe r version step form
    by true h same = subst (MayBe r version step) (some_same images.delta form same) h
    by false h same = absurd (cc)
may_there r version step (suc (suc (suc (suc zero)))) form e = by (may_be_plain r version step) refl e
  where
    by : (b : Bool) → may_be_plain r version step ≡ b → allowed b images.plain ≡ Some form → MayBe r version step form
    by true h same = subst (MayBe r version step) (some_same images.plain form same) h
    by false h same = absurd (cc)
may_there r version step (suc (suc (suc (suc (suc i))))) form e = absurd (cc)

pub chosen_may : (r : Pixels) (version : Version) (step : ℕ) → MayBe r version step (chosen_coded_form r version step)
unfolding chosen_coded_form
chosen_may r version step = by (first_least (size_of r version step) (coded_forms r version step)) (at_first (size_of r version step) (coded_forms r version step))
  where
    by : (taken : Option CodedForm) → At (coded_forms r version step) taken → MayBe r version step (unwrap_or taken images.sweep)
    by None h = tt
    by (Some form) h = may_there r version step h.0 form h.1

-- ---- the lengths

coded_size : (r : Pixels) (version : Version) (step : ℕ) (wanted : Bool) (symbols : List ℕ) (coding : Option Coding) (form : CodedForm) → AreSymbols wanted symbols coding → size_of r version step form ≡ 2 + length (coding_bytes symbols)
    → option_map (λ c. c.size + 2) coding ≡ option_map (size_of r version step) (allowed (wanted && have_codes symbols) form)
coded_size r version step wanted symbols coding form are long = by coding are
  where
    by : (coding : Option Coding) → MatchOption coding ((wanted && have_codes symbols) ≡ false) (HasSymbols wanted symbols) → option_map (λ c. c.size + 2) coding ≡ option_map (size_of r version step) (allowed (wanted && have_codes symbols) form)
    by None h = ap (λ (b : Bool). option_map (size_of r version step) (allowed b form)) (sym h)
    by (Some c) h =
        let is = h.coding_is.size_is in
        let same : c.size + 2 ≡ size_of r version step form = omega (arith, is, long) in
        ap Some same ∙ ap (λ (b : Bool). option_map (size_of r version step) (allowed b form)) (sym h.holds)

pub delta_size : (r : Pixels) (version : Version) (step : ℕ) (c : Codings) → AreCodings r version step c
    → option_map (λ x. x.size + 2) c.deltas ≡ option_map (size_of r version step) (allowed (may_be_delta r step) images.delta)
unfolding coded_form_bytes
delta_size r version step c are = coded_size r version step (images.has_mode r step) (all_deltas r) c.deltas images.delta are.deltas (omega arith)

pub plain_size : (r : Pixels) (version : Version) (step : ℕ) (c : Codings) → AreCodings r version step c
    → option_map (λ x. x.size + 2) c.plains ≡ option_map (size_of r version step) (allowed (may_be_plain r version step) images.plain)
unfolding coded_form_bytes
plain_size r version step c are = coded_size r version step (images.has_mode r step && images.is_v4 version) (plain_symbols r) c.plains images.plain are.plains (omega arith)

-- ---- the bytes

pub delta_is : (r : Pixels) (version : Version) (step : ℕ) → 0 ∷ 1 ∷ coding_bytes (all_deltas r) ≡ coded_form_bytes r version step images.delta
unfolding coded_form_bytes
delta_is r version step = refl

pub plain_is : (r : Pixels) (version : Version) (step : ℕ) → 0 ∷ 2 ∷ coding_bytes (plain_symbols r) ≡ coded_form_bytes r version step images.plain
unfolding coded_form_bytes
plain_is r version step = refl

-- ---- the choice

-- the form at a place where there is one
placed : (r : Pixels) (version : Version) (step k n : ℕ) → option_map (size_of r version step) (get_or (coded_forms r version step) k None) ≡ Some n → get_or (coded_forms r version step) k None ≡ Some (named (form_at k))
placed r version step zero n e = refl
placed r version step (suc zero) n e = refl
placed r version step (suc (suc zero)) n e = refl
placed r version step (suc (suc (suc zero))) n e = by (may_be_delta r step) e
  where
    by : (b : Bool) → option_map (size_of r version step) (allowed b images.delta) ≡ Some n → allowed b images.delta ≡ Some images.delta
    by true same = refl
    by false same = absurd (cc)
placed r version step (suc (suc (suc (suc zero)))) n e = by (may_be_plain r version step) e
  where
    by : (b : Bool) → option_map (size_of r version step) (allowed b images.plain) ≡ Some n → allowed b images.plain ≡ Some images.plain
    by true same = refl
    by false same = absurd (cc)
placed r version step (suc (suc (suc (suc (suc k))))) n e = absurd (cc)

-- of sizes, of which some are left out that are greater than one that is there, the first of the least is that of all
pub record IsPart (us ws : List (Option ℕ)) : Type 0 where
  pub same : (i n : ℕ) → get_or us i None ≡ Some n → get_or ws i None ≡ Some n
  pub left : (i n : ℕ) → get_or ws i None ≡ Some n → (get_or us i None ≡ Some n) ⊎ ((j : ℕ) × ((m : ℕ) × ((get_or us j None ≡ Some m) × (m < n))))

whole_least : (us ws : List (Option ℕ)) (k n : ℕ) → IsPart us ws → IsFirstLeast (λ m. m) us k n → IsFirstLeast (λ m. m) ws k n
whole_least us ws k n part is = record {
  there = part.same k n is.there;
  least = λ i y there. low i y (part.left i y there);
  first = λ i y before there. less i y before (part.left i y there);
}
  where
    low : (i y : ℕ) → (get_or us i None ≡ Some y) ⊎ ((j : ℕ) × ((m : ℕ) × ((get_or us j None ≡ Some m) × (m < y)))) → n ≤ y
    low i y (inl there) = is.least i y there
    low i y (inr out) = let a = is.least out.0 out.1.0 out.1.1.0 in let b = out.1.1.1 in omega (arith, a, b)

    less : (i y : ℕ) → i < k → (get_or us i None ≡ Some y) ⊎ ((j : ℕ) × ((m : ℕ) × ((get_or us j None ≡ Some m) × (m < y)))) → n < y
    less i y before (inl there) = is.first i y before there
    less i y before (inr out) = let a = is.least out.0 out.1.0 out.1.1.0 in let b = out.1.1.1 in omega (arith, a, b)

-- the size of a form of blocks, where these were measured
abbrev pub measured_len : ℕ → Option Measured → Option ℕ
measured_len front found = option_map (λ m. 1 + front + m.size) found

-- the sizes as they are found, the blocks no further than up to a number
pub record AreFound (front a b8 b16 most : ℕ) (small large : Option Measured) (d e : Option ℕ) : Type 0 where
  pub small_is : MatchOption small (most < b8) (λ m. m.size ≡ b8)
  pub large_is : MatchOption large (most < b16) (λ m. m.size ≡ b16)
  pub most_is : (most ≡ a) ⊎ ((d ≡ Some most) ⊎ (e ≡ Some most))

abbrev sizes_found : ℕ → ℕ → Option Measured → Option Measured → Option ℕ → Option ℕ → List (Option ℕ)
sizes_found front a small large d e = Some a ∷ measured_len front small ∷ measured_len front large ∷ d ∷ e ∷ []

abbrev all_sizes : ℕ → ℕ → ℕ → ℕ → Option ℕ → Option ℕ → List (Option ℕ)
all_sizes front a b8 b16 d e = Some a ∷ Some (1 + front + b8) ∷ Some (1 + front + b16) ∷ d ∷ e ∷ []

-- a greater number than one that is there
abbrev IsOver : List (Option ℕ) → ℕ → Type 0
IsOver us n = (j : ℕ) × ((m : ℕ) × ((get_or us j None ≡ Some m) × (m < n)))

over_most : (front a most n : ℕ) (small large : Option Measured) (d e : Option ℕ) → (most ≡ a) ⊎ ((d ≡ Some most) ⊎ (e ≡ Some most)) → most < n → IsOver (sizes_found front a small large d e) n
over_most front a most n small large d e (inl same) low = (0, (a, (refl, omega (arith, same, low))))
over_most front a most n small large d e (inr (inl same)) low = (3, (most, (same, low)))
over_most front a most n small large d e (inr (inr same)) low = (4, (most, (same, low)))

found_part : (front a b8 b16 most : ℕ) (small large : Option Measured) (d e : Option ℕ) → AreFound front a b8 b16 most small large d e
    → IsPart (sizes_found front a small large d e) (all_sizes front a b8 b16 d e)
found_part front a b8 b16 most small large d e are = record { same = same; left = left }
  where
    us : List (Option ℕ)
    us = sizes_found front a small large d e

    kept : (b n limit : ℕ) (found : Option Measured) → MatchOption found (limit < b) (λ m. m.size ≡ b) → measured_len front found ≡ Some n → Some (1 + front + b) ≡ Some n
    kept b n limit None is at = absurd (cc)
    kept b n limit (Some m) is at = ap (λ x. Some (1 + front + x)) (sym is) ∙ at

    same : (i n : ℕ) → get_or us i None ≡ Some n → get_or (all_sizes front a b8 b16 d e) i None ≡ Some n
    same zero n at = at
    same (suc zero) n at = kept b8 n most small are.small_is at
    same (suc (suc zero)) n at = kept b16 n most large are.large_is at
    same (suc (suc (suc i))) n at = at

    large_left : (n : ℕ) (found : Option Measured) → MatchOption found (most < b16) (λ m. m.size ≡ b16) → Some (1 + front + b16) ≡ Some n → (measured_len front found ≡ Some n) ⊎ IsOver us n
    large_left n None is at = let e16 : 1 + front + b16 ≡ n = some_same _ _ at in inr (over_most front a most n small large d e are.most_is (omega (arith, is, e16)))
    large_left n (Some m) is at = inl (ap (λ x. Some (1 + front + x)) is ∙ at)

    small_left : (n : ℕ) (found : Option Measured) → MatchOption found (most < b8) (λ m. m.size ≡ b8) → Some (1 + front + b8) ≡ Some n → (measured_len front found ≡ Some n) ⊎ IsOver us n
    small_left n None is at = let e8 : 1 + front + b8 ≡ n = some_same _ _ at in inr (over_most front a most n small large d e are.most_is (omega (arith, is, e8)))
    small_left n (Some m) is at = inl (ap (λ x. Some (1 + front + x)) is ∙ at)

    left : (i n : ℕ) → get_or (all_sizes front a b8 b16 d e) i None ≡ Some n → (get_or us i None ≡ Some n) ⊎ IsOver us n
    left zero n at = inl at
    left (suc zero) n at = small_left n small are.small_is at
    left (suc (suc zero)) n at = large_left n large are.large_is at
    left (suc (suc (suc i))) n at = inl at

-- a side that is left out is not chosen
small_there : (front a : ℕ) (small large : Option Measured) (d e : Option ℕ) (k n : ℕ) → get_or (sizes_found front a small large d e) k None ≡ Some n → small ≡ None → k ≡ 1 → ⊥
small_there front a small large d e k n at out same =
    let none : get_or (sizes_found front a small large d e) k None ≡ None = (λ t. get_or (sizes_found front a (out t) large d e) (same t) None) in
    (let t : None ≡ Some n = sym none ∙ at in cc)

large_there : (front a : ℕ) (small large : Option Measured) (d e : Option ℕ) (k n : ℕ) → get_or (sizes_found front a small large d e) k None ≡ Some n → large ≡ None → k ≡ 2 → ⊥
large_there front a small large d e k n at out same =
    let none : get_or (sizes_found front a small large d e) k None ≡ None = (λ t. get_or (sizes_found front a small (out t) d e) (same t) None) in
    (let t : None ≡ Some n = sym none ∙ at in cc)

place_small : (front a : ℕ) (small large : Option Measured) (d e : Option ℕ) (k n : ℕ) → get_or (sizes_found front a small large d e) k None ≡ Some n → named (form_at k) ≡ images.blocks_8 → k ≡ 1
place_small front a small large d e zero n at is = absurd (cc)
place_small front a small large d e (suc zero) n at is = refl
place_small front a small large d e (suc (suc zero)) n at is = absurd (cc)
place_small front a small large d e (suc (suc (suc zero))) n at is = absurd (cc)
place_small front a small large d e (suc (suc (suc (suc zero)))) n at is = absurd (cc)
place_small front a small large d e (suc (suc (suc (suc (suc k))))) n at is = absurd (cc)

place_large : (front a : ℕ) (small large : Option Measured) (d e : Option ℕ) (k n : ℕ) → get_or (sizes_found front a small large d e) k None ≡ Some n → named (form_at k) ≡ images.blocks_16 → k ≡ 2
place_large front a small large d e zero n at is = absurd (cc)
place_large front a small large d e (suc zero) n at is = absurd (cc)
place_large front a small large d e (suc (suc zero)) n at is = refl
place_large front a small large d e (suc (suc (suc zero))) n at is = absurd (cc)
place_large front a small large d e (suc (suc (suc (suc zero)))) n at is = absurd (cc)
place_large front a small large d e (suc (suc (suc (suc (suc k))))) n at is = absurd (cc)

-- what was measured of a side
pub sizes_of : (limit : ℕ) (h : Header) (r : Pixels) (found : Option Measured) → MatchOption found (limit < length (blocks_bytes h r)) (IsMeasured h r) → MatchOption found (limit < length (blocks_bytes h r)) (λ m. m.size ≡ length (blocks_bytes h r))
sizes_of limit h r None is = is
sizes_of limit h r (Some m) is = is.size

pub measured_of : (limit : ℕ) (h : Header) (r : Pixels) (found : Option Measured) → MatchOption found (limit < length (blocks_bytes h r)) (IsMeasured h r) → MatchOption found Unit (IsMeasured h r)
measured_of limit h r None is = tt
measured_of limit h r (Some m) is = is

pub few_of : (limit : ℕ) (h : Header) (r : Pixels) (found : Option Measured) → MatchOption found (limit < length (blocks_bytes h r)) (IsMeasured h r) → MatchOption found Unit (λ m. m.size ≤ 1025 * 16777216)
few_of limit h r None is = tt
few_of limit h r (Some m) is = is.few

pub measured_here : (h g : Header) (r : Pixels) (form : CodedForm) (named_form : CodedForm) (found : Option Measured) → MatchOption found (named_form ≡ form → ⊥) (IsMeasured g r) → named_form ≡ form → h ≡ g → MatchOption found ⊥ (IsMeasured h r)
measured_here h g r form named_form None is at e = absurd (is at)
measured_here h g r form named_form (Some m) is at e = subst (λ (x : Header). IsMeasured x r m) (sym e) is

pub chosen_is : (r : Pixels) (version : Version) (step front a b8 b16 most : ℕ) (small large : Option Measured) (d e : Option ℕ) (us : List (Option ℕ)) (first : Option (ℕ × ℕ)) (p : ℕ × ℕ) (f : ValueForm) (codings : Codings)
    → AreFound front a b8 b16 most small large d e → us ≡ Some a ∷ measured_len front small ∷ measured_len front large ∷ d ∷ e ∷ []
    → Some a ∷ Some (1 + front + b8) ∷ Some (1 + front + b16) ∷ d ∷ e ∷ [] ≡ map (option_map (size_of r version step)) (coded_forms r version step) → a ≤ 67108865
    → MatchOption first ((i n : ℕ) → get_or us i None ≡ Some n → ⊥) (λ q. IsFirstLeast (λ m. m) us q.0 q.1) → p ≡ unwrap_or first (0, 0)
    → f ≡ form_at p.0 → AreCodings r version step codings → MatchOption small Unit (IsMeasured (header_of r version step 8 0 0) r) → MatchOption large Unit (IsMeasured (header_of r version step 16 0 0) r)
    → IsChosen r version step (record { form = f; size = p.1; codings = codings; small = small; large = large })
unfolding chosen_coded_form
chosen_is r version step front a b8 b16 most small large d e us None p f codings found same is few none at form are small_are large_are = absurd (none 0 a (ap (λ (xs : List (Option ℕ)). get_or xs 0 None) same))
chosen_is r version step front a b8 b16 most small large d e us (Some q) p f codings found same is few first_is at form_is are small_are large_are =
    let size = size_of r version step in
    let here = subst (λ (xs : List (Option ℕ)). IsFirstLeast (λ m. m) xs q.0 q.1) same first_is in
    let first = whole_least (sizes_found front a small large d e) (all_sizes front a b8 b16 d e) q.0 q.1 (found_part front a b8 b16 most small large d e found) here in
    let known : option_map size (get_or (coded_forms r version step) q.0 None) ≡ Some q.1 = sym (sized size (coded_forms r version step) q.0) ∙ ap (λ (xs : List (Option ℕ)). get_or xs q.0 None) (sym is) ∙ first.there in
    let there = placed r version step q.0 q.1 known in
    let taken : first_least size (coded_forms r version step) ≡ Some (named (form_at q.0)) = by_sizes size (coded_forms r version step) q.0 q.1 (named (form_at q.0)) there (subst (λ (xs : List (Option ℕ)). IsFirstLeast (λ m. m) xs q.0 q.1) is first) in
    let placed_form : named f ≡ named (form_at q.0) = ap named (form_is ∙ ap (λ (x : ℕ × ℕ). form_at x.0) at) in
    let form : named f ≡ unwrap_or (first_least size (coded_forms r version step)) images.sweep = placed_form ∙ ap (λ x. unwrap_or x images.sweep) (sym taken) in
    let long : q.1 ≡ size (named (form_at q.0)) = some_same q.1 (size (named (form_at q.0))) (sym known ∙ ap (option_map size) there) in
    let low = first.least 0 a refl in
    let second : p.1 ≡ q.1 = ap (λ (x : ℕ × ℕ). x.1) at in
    record {
      form = form;
      size = second ∙ long ∙ ap size (sym (ap (λ x. unwrap_or x images.sweep) taken));
      few = omega (arith, second, low, few);
      codings_are = are;
      small_are = small_by placed_form here.there small refl small_are;
      large_are = large_by placed_form here.there large refl large_are;
    }
  where
    small_by : named f ≡ named (form_at q.0) → get_or (sizes_found front a small large d e) q.0 None ≡ Some q.1 → (o : Option Measured) → small ≡ o → MatchOption o Unit (IsMeasured (header_of r version step 8 0 0) r)
        → MatchOption o (named f ≡ images.blocks_8 → ⊥) (IsMeasured (header_of r version step 8 0 0) r)
    small_by at_form there None out is_none = λ at_8. small_there front a small large d e q.0 q.1 there out (place_small front a small large d e q.0 q.1 there (sym at_form ∙ at_8))
    small_by at_form there (Some m) out is_some = is_some

    large_by : named f ≡ named (form_at q.0) → get_or (sizes_found front a small large d e) q.0 None ≡ Some q.1 → (o : Option Measured) → large ≡ o → MatchOption o Unit (IsMeasured (header_of r version step 16 0 0) r)
        → MatchOption o (named f ≡ images.blocks_16 → ⊥) (IsMeasured (header_of r version step 16 0 0) r)
    large_by at_form there None out is_none = λ at_16. large_there front a small large d e q.0 q.1 there out (place_large front a small large d e q.0 q.1 there (sym at_form ∙ at_16))
    large_by at_form there (Some m) out is_some = is_some

-- how long the forms of blocks are
pub small_long : (h : Header) (r : Pixels) → IsBase h r → 1 + length (mode_bytes r h.step) + length (blocks_bytes h r) ≡ size_of r h.version h.step images.blocks_8
small_long h r b =
    let is = ap length (small_is h r b) in
    let parts = length-append (mode_bytes r h.step) (blocks_bytes h r) in
    omega (arith, is, parts)

pub large_long : (h g : Header) (r : Pixels) → IsBase h r → g ≡ record h { side = 16 } → 1 + length (mode_bytes r h.step) + length (blocks_bytes g r) ≡ size_of r h.version h.step images.blocks_16
large_long h g r b e =
    let is = ap length (large_is h g r b e) in
    let parts = length-append (mode_bytes r g.step) (blocks_bytes g r) in
    let same : length (mode_bytes r g.step) ≡ length (mode_bytes r h.step) = ap (λ (x : Header). length (mode_bytes r x.step)) e in
    omega (arith, is, parts, same)
