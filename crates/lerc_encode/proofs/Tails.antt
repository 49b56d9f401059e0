-- What the image stands for, by how it ends.
use Rattle.std.proofs.Common.{◌≡◌, ℕ, ◌<◌, true, false, List, [], ◌++◌, length, get_or, replicate, refl, sym, ap, ◌∙◌, subst, arith, Option, Some, None, inl, inr}
use Rattle.std.specs.Prelude.{ℤ, pos, is_some, unwrap_or, nat_eq, ◌&&◌, IfSome}
use Rattle.std.proofs.lemmas.Int.{ints}
use Rattle.std.proofs.lemmas.Bool.{eqb-true, eq-eqb}
use Rattle.std.proofs.lemmas.Bool.Decides.{Decides-int_eq}
use Rattle.std.proofs.lemmas.List.{get_or-map, ext_get_or, length-replicate, get_or-replicate}
use Rattle.std.proofs.lemmas.List.Elements.{All-append}
use Rattle.raster_values.specs.Raster.{Pixels, IsRaster, IsPixel, values_of, valid_count}
use Rattle.raster_cells.specs.PixelType.{InRange}
use Rattle.raster_values.specs.Flat.{EachValid, marks_of, value_in}
use Rattle.lerc_header.specs.declared.header.Version.{Version}
use Rattle.lerc_header.specs.declared.header.Version.TheVariants.{V3, V4}
use Rattle.micro_block.specs.ChosenBlock as micro
use Rattle.micro_block.proofs.Written.{raw_stands}
use Rattle.lerc_grammar.specs.Image.{IsBare, IsFront, AreEqual, IsImage}
use Rattle.lerc_grammar.specs.Image as grammar
use Rattle.lerc_encode.specs.Ranges.{greatest_value, depth_values, leasts, greatests, lists_bytes, has_equal_ranges, is_constant, is_empty}
use Rattle.lerc_encode.specs.inside.Fronts.{front_of}
use Rattle.lerc_encode.specs.Heads.{header_of}
use Rattle.lerc_encode.specs.Images.{CodedForm, is_v4, Tail, empty, constant, ranges, coded, side_at, side_of, image_bytes, coded_form_bytes}
use Rattle.lerc_encode.specs.inside.Suits.{IsBeside}
use Rattle.lerc_encode.proofs.Members.{Has}
use Rattle.lerc_encode.proofs.Extremes.{at_greatests, at_leasts, greatest_above, least_below, value_among, value_of_all, no_values, leasts_fit, greatests_fit, length_leasts, length_greatests}
use Rattle.lerc_encode.proofs.Forming.{same_lists, lists_same}
use Rattle.lerc_encode.proofs.Standing.{near_itself, MayBe, form_stands, form_sound, form_near, raster_of}

-- ---- no values, or all of one

not_bare : (r : Pixels) (version : Version) (step side size sum : ℕ) → is_empty r ≡ false → is_constant r ≡ false → IsBare (header_of r version step side size sum) → ⊥
unfolding header_of
not_bare r version step side size sum h k (inl e) = let t : is_empty r ≡ true = eq-eqb (valid_count r) 0 e in cc
not_bare r version step side size sum h k (inr e) = let t : is_constant r ≡ true = (Decides-int_eq (micro.least_value (values_of r.pixels)) (greatest_value (values_of r.pixels))).1 e in cc

-- the values of each valid pixel, by its depths
each_pixel : (r : Pixels) → IsRaster r → (ws : List ℤ) → length ws ≡ r.depth
    → ((k d : ℕ) → k < length r.pixels → get_or (marks_of r) k false ≡ true → d < r.depth → value_in r d k ≡ get_or ws d (pos 0)) → EachValid r (λ values. values ≡ ws)
each_pixel r is ws long each k h = one (get_or r.pixels k None) (is.each k h) refl
  where
    one : (p : Option (List ℤ)) → IsPixel r.kind r.depth p → get_or r.pixels k None ≡ p → IfSome p (λ values. values ≡ ws)
    one None pixel e = tt
    one (Some values) pixel e = ext_get_or (pos 0) values ws (pixel.0 ∙ sym long)
        (λ d low. let size = pixel.0 in let low_too : d < r.depth = omega (arith, low, size) in
        sym (ap (λ q. get_or (unwrap_or q []) d (pos 0)) e) ∙ each k d h (get_or-map is_some r.pixels k None false h ∙ ap is_some e) low_too)

none_there : (r : Pixels) → IsRaster r → valid_count r ≡ 0 → EachValid r (λ values. ⊥)
none_there r is h k low = one (get_or r.pixels k None) (is.each k low) refl
  where
    one : (p : Option (List ℤ)) → IsPixel r.kind r.depth p → get_or r.pixels k None ≡ p → IfSome p (λ values. ⊥)
    one None pixel e = tt
    one (Some values) pixel e =
        let m : Has (value_in r 0 k) (values_of r.pixels) = value_of_all r is k 0 low (get_or-map is_some r.pixels k None false low ∙ ap is_some e) (is.shape.depth_above) in
        subst (Has (value_in r 0 k)) (no_values r.pixels h) m

all_one : (r : Pixels) → IsRaster r → micro.least_value (values_of r.pixels) ≡ greatest_value (values_of r.pixels) → EachValid r (λ values. values ≡ replicate r.depth (micro.least_value (values_of r.pixels)))
all_one r is e =
    let m = micro.least_value (values_of r.pixels) in
    each_pixel r is (replicate r.depth m) (length-replicate r.depth m)
    (λ k d there valid low.
    let member = value_of_all r is k d there valid low in
    let b = least_below (values_of r.pixels) (value_in r d k) member in
    let a = greatest_above (values_of r.pixels) (value_in r d k) member in
    (let v : value_in r d k ≡ m = omega (arith, ints, a, b, e) in v) ∙ sym (get_or-replicate r.depth d m (pos 0) low))

-- ---- the lists

front_stands : (r : Pixels) → IsRaster r → (version : Version) (step side size sum : ℕ) → IsFront (header_of r version step side size sum) version (lists_bytes r version) (front_of r version)
unfolding header_of
front_stands r is V3 step side size sum = (refl, refl)
front_stands r is V4 step side size sum =
    (record { least = leasts r; greatest = greatests r }, (refl, (length_leasts r, (length_greatests r, raw_stands r.kind (leasts r ++ greatests r) (All-append (InRange r.kind) (leasts r) (greatests r) (leasts_fit r is) (greatests_fit r is))))))

-- all pixels have the least values where these are the greatest
all_of_ranges : (r : Pixels) → IsRaster r → leasts r ≡ greatests r → EachValid r (λ values. values ≡ leasts r)
all_of_ranges r is e =
    each_pixel r is (leasts r) (length_leasts r)
    (λ k d there valid low.
    let member = value_among r k d there valid in
    let b = least_below (depth_values r d) (value_in r d k) member in
    let a = greatest_above (depth_values r d) (value_in r d k) member in
    let same : micro.least_value (depth_values r d) ≡ greatest_value (depth_values r d) = sym (at_leasts r d low) ∙ ap (λ vs. get_or vs d (pos 0)) e ∙ at_greatests r d low in
    (let v : value_in r d k ≡ micro.least_value (depth_values r d) = omega (arith, ints, a, b, same) in v) ∙ sym (at_leasts r d low))

not_equal : (r : Pixels) (version : Version) → (is_v4 version && has_equal_ranges r) ≡ false → AreEqual (front_of r version) → ⊥
not_equal r V3 h e = e
not_equal r V4 h e = let t : has_equal_ranges r ≡ true = lists_same (leasts r) (greatests r) e in cc

-- ---- the image

pub record ImageStands (r : Pixels) (version : Version) (step size sum : ℕ) (e : Tail) : Type 0 where
  pub raster : Pixels
  pub sound : IsRaster raster
  pub near : IsBeside r raster step
  pub image : IsImage (header_of r version step (side_at e) size sum) (image_bytes r version step e) raster

pub empty_stands : (r : Pixels) → IsRaster r → (version : Version) (step size sum : ℕ) → is_empty r ≡ true → ImageStands r version step size sum empty
unfolding header_of
empty_stands r is version step size sum h =
    let e = eqb-true (valid_count r) 0 h in
    record { raster = r; sound = is; near = near_itself r step; image = grammar.empty e refl (none_there r is e) }

pub constant_stands : (r : Pixels) → IsRaster r → (version : Version) (step size sum : ℕ) → is_empty r ≡ false → is_constant r ≡ true → ImageStands r version step size sum constant
unfolding header_of
constant_stands r is version step size sum h k =
    let same = (Decides-int_eq (micro.least_value (values_of r.pixels)) (greatest_value (values_of r.pixels))).0 k in
    record {
      raster = r;
      sound = is;
      near = near_itself r step;
      image = grammar.constant (λ e. let u : nat_eq (valid_count r) 0 ≡ true = eq-eqb (valid_count r) 0 e in cc) same refl (all_one r is same);
    }

pub ranges_stands : (r : Pixels) → IsRaster r → (version : Version) (step size sum : ℕ) → is_empty r ≡ false → is_constant r ≡ false → (is_v4 version && has_equal_ranges r) ≡ true
    → ImageStands r version step size sum ranges
unfolding header_of
ranges_stands r is V3 step size sum h d k = absurd (cc)
ranges_stands r is V4 step size sum h d k =
    let e = same_lists (leasts r) (greatests r) k in
    record { raster = r; sound = is; near = near_itself r step; image = grammar.ranges (not_bare r V4 step 8 size sum h d) (front_of r V4) (front_stands r is V4 step 8 size sum) e (all_of_ranges r is e) }

front_of_header : (r : Pixels) → IsRaster r → (version : Version) (step side size sum : ℕ) → IsFront (header_of r version step side size sum) (header_of r version step side size sum).version (lists_bytes r version) (front_of r version)
unfolding header_of
front_of_header r is version step side size sum = front_stands r is version step side size sum

coded_image : (r : Pixels) → IsRaster r → (version : Version) (step size sum : ℕ) → 0 < step → is_empty r ≡ false → is_constant r ≡ false → (is_v4 version && has_equal_ranges r) ≡ false → (form : CodedForm) → MayBe r version step form
    → IsImage (header_of r version step (side_of form) size sum) (lists_bytes r version ++ coded_form_bytes r version step form) (raster_of r version step size sum form)
coded_image r is version step size sum some h d k form may =
    grammar.coded (not_bare r version step (side_of form) size sum h d) (lists_bytes r version) (coded_form_bytes r version step form) (front_of r version) refl
    (front_of_header r is version step (side_of form) size sum) (not_equal r version k) (form_stands r is version step size sum some form may)

pub coded_stands : (r : Pixels) → IsRaster r → (version : Version) (step size sum : ℕ) → 0 < step → is_empty r ≡ false → is_constant r ≡ false → (is_v4 version && has_equal_ranges r) ≡ false → (form : CodedForm) → MayBe r version step form → ImageStands r version step size sum (coded form)
coded_stands r is version step size sum some h d k form may =
    record {
      raster = raster_of r version step size sum form;
      sound = form_sound r is version step size sum some form;
      near = form_near r is version step size sum some form;
      image = coded_image r is version step size sum some h d k form may;
    }
