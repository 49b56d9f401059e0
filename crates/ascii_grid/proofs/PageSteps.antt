-- Words that wait in a page.
use Rattle.std.proofs.Common.{◌≡◌, ℕ, ℤ, suc, w64, FitsSigned, ◌+◌, ◌<◌, List, [], ◌∷◌, ◌++◌, length, take, drop, get_or, Option, None, Result, Ok, Err, OnErr, refl, sym, ap, ◌∙◌, subst, arith, append_assoc}
use Rattle.std.proofs.lemmas.List.{append-nil, places, take-append-drop, take_more}
use Rattle.std.proofs.lemmas.Int.{fits_signed_from_abs}
use Rattle.std.specs.Prelude.{unsigned_abs}
use Rattle.std.specs.Fmt.{signed_decimal}
use Rattle.outside_io.specs.streams.Sink.{Holds, HoldsPrefix}
use Rattle.outside_io.proofs.StreamLemmas.Gives.{Holds_join, Holds_none, HoldsPrefix_front, HoldsPrefix_join}
use Rattle.ascii_grid.specs.declared.words.Key.{Key}
use Rattle.ascii_grid.specs.Head.{name_of}
use Rattle.ascii_grid.specs.Canon.{Word, end_of, line, number_of, number_words, spelled}
use Rattle.ascii_grid.specs.inside.Pages.{Waits}

pub spelled_join : (ws vs : List Word) → spelled (ws ++ vs) ≡ spelled ws ++ spelled vs
spelled_join [] vs = refl
spelled_join (w ∷ ws) vs = ap (λ (xs : List ℕ). w.bytes ++ w.behind ∷ xs) (spelled_join ws vs) ∙ sym (append_assoc w.bytes (w.behind ∷ spelled ws) (spelled vs))

pub waits_join : (a b c : Option (List ℕ)) (p q r : List ℕ) (ws vs : List Word) → Waits a b p q ws → Waits b c q r vs → Waits a c p r (ws ++ vs)
waits_join a b c p q r ws vs x y = record {
  given = x.given ++ y.given;
  held = Holds_join a b c x.given y.given x.held y.held;
  joined = ap (λ (xs : List ℕ). p ++ xs) (spelled_join ws vs) ∙ sym (append_assoc p (spelled ws) (spelled vs)) ∙ ap (λ (xs : List ℕ). xs ++ spelled vs) x.joined
      ∙ append_assoc x.given q (spelled vs) ∙ ap (λ (xs : List ℕ). x.given ++ xs) y.joined ∙ sym (append_assoc x.given y.given r);
}

pub waits_none : (a : Option (List ℕ)) (p : List ℕ) → Waits a a p p []
waits_none a p = record { given = []; held = Holds_none a; joined = append-nil p }

-- the sink failed with the first words, or with later ones
pub breaks_first : (a b : Option (List ℕ)) (p : List ℕ) (ws vs : List Word) → HoldsPrefix a b (p ++ spelled ws) → HoldsPrefix a b (p ++ spelled (ws ++ vs))
breaks_first a b p ws vs h =
    subst (HoldsPrefix a b) (append_assoc p (spelled ws) (spelled vs) ∙ ap (λ (xs : List ℕ). p ++ xs) (sym (spelled_join ws vs))) (HoldsPrefix_front a b (p ++ spelled ws) (spelled vs) h)

pub breaks_later : (a b c : Option (List ℕ)) (p q : List ℕ) (ws vs : List Word) → Waits a b p q ws → HoldsPrefix b c (q ++ spelled vs) → HoldsPrefix a c (p ++ spelled (ws ++ vs))
breaks_later a b c p q ws vs x h =
    subst (HoldsPrefix a c) (sym (append_assoc x.given q (spelled vs)) ∙ ap (λ (xs : List ℕ). xs ++ spelled vs) (sym x.joined) ∙ append_assoc p (spelled ws) (spelled vs) ∙ ap (λ (xs : List ℕ). p ++ xs) (sym (spelled_join ws vs)))
    (HoldsPrefix_join a b c x.given (q ++ spelled vs) x.held h)

-- ---- numbers

pub numbers_join : (nodata : ℤ) (cols k : ℕ) (ps qs : List (Option (List ℤ))) → number_words nodata cols k (ps ++ qs) ≡ number_words nodata cols k ps ++ number_words nodata cols (length ps + k) qs
numbers_join nodata cols k [] qs = let none : k ≡ 0 + k = omega arith in ap (λ (j : ℕ). number_words nodata cols j qs) none
numbers_join nodata cols k (p ∷ ps) qs =
    let place : length ps + suc k ≡ length (p ∷ ps) + k = omega arith in
    ap (λ (ws : List Word). record { bytes = signed_decimal (number_of nodata p); behind = end_of cols k } ∷ ws) (numbers_join nodata cols (suc k) ps qs
    ∙ ap (λ (j : ℕ). number_words nodata cols (suc k) ps ++ number_words nodata cols j qs) place)

abbrev pub number_word : ℤ → ℕ → ℕ → List (Option (List ℤ)) → Word
number_word nodata cols k ps = record { bytes = signed_decimal (number_of nodata (get_or ps k None)); behind = end_of cols k }

pub numbers_more : (nodata : ℤ) (cols k : ℕ) (ps : List (Option (List ℤ))) → k < length ps → number_words nodata cols 0 (take (k + 1) ps) ≡ number_words nodata cols 0 (take k ps) ++ number_word nodata cols k ps ∷ []
numbers_more nodata cols k ps less =
    let place : length (take k ps) + 0 ≡ k = grind (arith, places) in
    ap (number_words nodata cols 0) (take_more ps k None less) ∙ numbers_join nodata cols 0 (take k ps) (get_or ps k None ∷ [])
    ∙ ap (λ (j : ℕ). number_words nodata cols 0 (take k ps) ++ number_words nodata cols j (get_or ps k None ∷ [])) place

-- the sink failed with the number of the pixel number k
pub numbers_break : (a b c : Option (List ℕ)) (p q : List ℕ) (nodata : ℤ) (cols k : ℕ) (ps : List (Option (List ℤ))) → k < length ps → Waits a b p q (number_words nodata cols 0 (take k ps))
    → HoldsPrefix b c (q ++ spelled (number_word nodata cols k ps ∷ [])) → HoldsPrefix a c (p ++ spelled (number_words nodata cols 0 ps))
numbers_break a b c p q nodata cols k ps less x h =
    let here = breaks_later a b c p q (number_words nodata cols 0 (take k ps)) (number_word nodata cols k ps ∷ []) x h in
    let more = subst (λ (ws : List Word). HoldsPrefix a c (p ++ spelled ws)) (sym (numbers_more nodata cols k ps less)) here in
    let whole : take (k + 1) ps ++ drop (k + 1) ps ≡ ps = take-append-drop (k + 1) ps in
    subst (λ (ws : List Word). HoldsPrefix a c (p ++ spelled ws)) (sym (numbers_join nodata cols 0 (take (k + 1) ps) (drop (k + 1) ps)) ∙ ap (number_words nodata cols 0) whole)
    (breaks_first a c p (number_words nodata cols 0 (take (k + 1) ps)) (number_words nodata cols (length (take (k + 1) ps) + 0) (drop (k + 1) ps)) more)

pub numbers_step : (a b c : Option (List ℕ)) (p q r : List ℕ) (nodata : ℤ) (cols k : ℕ) (ps : List (Option (List ℤ))) → k < length ps → Waits a b p q (number_words nodata cols 0 (take k ps))
    → Waits b c q r (number_word nodata cols k ps ∷ []) → Waits a c p r (number_words nodata cols 0 (take (k + 1) ps))
numbers_step a b c p q r nodata cols k ps less x y =
    subst (λ (ws : List Word). Waits a c p r ws) (sym (numbers_more nodata cols k ps less)) (waits_join a b c p q r (number_words nodata cols 0 (take k ps)) (number_word nodata cols k ps ∷ []) x y)

-- ---- lines

pub on_err : {T E P : Type 0} (r : Result T E) → P → OnErr r P
on_err (Ok x) p = tt
on_err (Err e) p = p

abbrev word : List ℕ → ℕ → Word
word bytes behind = record { bytes = bytes; behind = behind }

pub line_waits : (a b c : Option (List ℕ)) (p q r : List ℕ) (key : Key) (name value : List ℕ) → name ≡ name_of key → Waits a b p q (word name 32 ∷ []) → Waits b c q r (word value 10 ∷ []) → Waits a c p r (line key value)
line_waits a b c p q r key name value is x y =
    waits_join a b c p q r (word (name_of key) 32 ∷ []) (word value 10 ∷ []) (subst (λ (n : List ℕ). Waits a b p q (word n 32 ∷ [])) is x) y

pub line_first : (a b : Option (List ℕ)) (p : List ℕ) (key : Key) (name value : List ℕ) → name ≡ name_of key → HoldsPrefix a b (p ++ spelled (word name 32 ∷ [])) → HoldsPrefix a b (p ++ spelled (line key value))
line_first a b p key name value is h =
    breaks_first a b p (word (name_of key) 32 ∷ []) (word value 10 ∷ []) (subst (λ (n : List ℕ). HoldsPrefix a b (p ++ spelled (word n 32 ∷ []))) is h)

pub line_later : (a b c : Option (List ℕ)) (p q : List ℕ) (key : Key) (name value : List ℕ) → name ≡ name_of key → Waits a b p q (word name 32 ∷ []) → HoldsPrefix b c (q ++ spelled (word value 10 ∷ [])) → HoldsPrefix a c (p ++ spelled (line key value))
line_later a b c p q key name value is x h =
    breaks_later a b c p q (word (name_of key) 32 ∷ []) (word value 10 ∷ []) (subst (λ (n : List ℕ). Waits a b p q (word n 32 ∷ [])) is x) h

-- a nodata value is one of 64 bits
pub fits : (z : ℤ) → unsigned_abs z < 10000000000 → FitsSigned w64 z
fits z below = fits_signed_from_abs w64 z (let less : unsigned_abs z < 9223372036854775808 = omega (arith, below) in less)

-- ---- the page that is given at the end

pub page_given : (a b c : Option (List ℕ)) (q : List ℕ) (ws : List Word) → Waits a b [] q ws → Holds b c q → Holds a c (spelled ws)
page_given a b c q ws x h = subst (Holds a c) (sym x.joined) (Holds_join a b c x.given q x.held h)

pub page_broken : (a b c : Option (List ℕ)) (q : List ℕ) (ws : List Word) → Waits a b [] q ws → HoldsPrefix b c q → HoldsPrefix a c (spelled ws)
page_broken a b c q ws x h = subst (HoldsPrefix a c) (sym x.joined) (HoldsPrefix_join a b c x.given q x.held h)
