-- Parts of one kind, one behind the other: their numbers say nothing.
use Rattle.std.proofs.Common.{◌≡◌, ℕ, ◌<◌, ◌≤◌, suc, List, [], ◌∷◌, ◌++◌, length, refl, sym, ap, ◌∙◌, subst, arith, append_assoc, length-append}
use Rattle.first_fault.specs.Faults.{Faults, Numbered}
use Rattle.first_fault.specs.Parts.{IsPart}
use Rattle.first_fault.proofs.Decided.{numbered_push}
use Rattle.first_fault.proofs.Parts.{same_rest}

-- the parts of the first elements, and those of the others behind them
pub record Divided {X : Type 0} (part : List ℕ → X → Type 0) (k : ℕ) (bytes : List ℕ) (xs ys : List X) : Type 0 where
  pub front : List ℕ
  pub rest : List ℕ
  pub joined : bytes ≡ front ++ rest
  pub first : Numbered (λ (j : ℕ). part) k front xs
  pub later : Numbered (λ (j : ℕ). part) 0 rest ys

-- where both stand in front of the same bytes, the longer list goes on behind the shorter one
pub record GoesOn {X : Type 0} (part : List ℕ → X → Type 0) (front rest other behind : List ℕ) (xs ys : List X) : Type 0 where
  pub later : List X
  pub middle : List ℕ
  pub tiles_are : ys ≡ xs ++ later
  pub bytes_are : other ≡ front ++ middle
  pub rest_is : rest ≡ middle ++ behind
  pub stream : Numbered (λ (j : ℕ). part) 0 middle later

module _ {X : Type 0} (part : List ℕ → X → Type 0) where
  -- one more
  pub push : (bytes more : List ℕ) (xs : List X) (x : X) → Numbered (λ (j : ℕ). part) 0 bytes xs → part more x → Numbered (λ (j : ℕ). part) 0 (bytes ++ more) (xs ++ x ∷ [])
  push bytes more xs x are is = numbered_push (λ (j : ℕ). part) 0 (length xs) bytes more xs x (omega arith) are is

  renumbered : (k j : ℕ) (bytes : List ℕ) (xs : List X) → Numbered (λ (n : ℕ). part) k bytes xs → Numbered (λ (n : ℕ). part) j bytes xs
  renumbered k j bytes [] are = are
  renumbered k j bytes (x ∷ xs) (front, (rest, (joined, (is, more)))) = (front, (rest, (joined, (is, renumbered (suc k) (suc j) rest xs more))))

  joined_at : (k : ℕ) (a b : List ℕ) (xs ys : List X) → Numbered (λ (n : ℕ). part) k a xs → Numbered (λ (n : ℕ). part) 0 b ys → Numbered (λ (n : ℕ). part) k (a ++ b) (xs ++ ys)
  joined_at k a b [] ys are later = subst (λ (u : List ℕ). Numbered (λ (n : ℕ). part) k u ys) (sym (ap (λ (u : List ℕ). u ++ b) are)) (renumbered 0 k b ys later)
  joined_at k a b (x ∷ xs) ys (front, (rest, (joined, (is, more)))) later = (front, (rest ++ b, (ap (λ (u : List ℕ). u ++ b) joined ∙ append_assoc front rest b, (is, joined_at (suc k) rest b xs ys more later))))

  pub join : (a b : List ℕ) (xs ys : List X) → Numbered (λ (n : ℕ). part) 0 a xs → Numbered (λ (n : ℕ). part) 0 b ys → Numbered (λ (n : ℕ). part) 0 (a ++ b) (xs ++ ys)
  join a b xs ys one two = joined_at 0 a b xs ys one two

  divided_at : (k : ℕ) (bytes : List ℕ) (xs ys : List X) → Numbered (λ (n : ℕ). part) k bytes (xs ++ ys) → Divided part k bytes xs ys
  divided_at k bytes [] ys are = record { front = []; rest = bytes; joined = refl; first = refl; later = renumbered k 0 bytes ys are }
  divided_at k bytes (x ∷ xs) ys (front, (rest, (joined, (is, more)))) =
      let d = divided_at (suc k) rest xs ys more in
      record {
        front = front ++ d.front;
        rest = d.rest;
        joined = joined ∙ ap (λ (u : List ℕ). front ++ u) d.joined ∙ sym (append_assoc front d.front d.rest);
        first = (front, (d.front, (refl, (is, d.first))));
        later = d.later;
      }

  pub divide : (bytes : List ℕ) (xs ys : List X) → Numbered (λ (n : ℕ). part) 0 bytes (xs ++ ys) → Divided part 0 bytes xs ys
  divide bytes xs ys are = divided_at 0 bytes xs ys are

-- ---- of parts that are read in one way

next_joins : (front rest other behind f r g q : List ℕ) → front ≡ f ++ r → other ≡ g ++ q → front ++ rest ≡ other ++ behind → f ++ (r ++ rest) ≡ g ++ (q ++ behind)
next_joins front rest other behind f r g q one two e =
    let left : f ++ (r ++ rest) ≡ front ++ rest = sym (append_assoc f r rest) ∙ ap (λ (u : List ℕ). u ++ rest) (sym one) in
    let right : other ++ behind ≡ g ++ (q ++ behind) = ap (λ (u : List ℕ). u ++ behind) two ∙ append_assoc g q behind in
    left ∙ e ∙ right

joined_on : (front other f r g q middle : List ℕ) → front ≡ f ++ r → other ≡ g ++ q → f ≡ g → q ≡ r ++ middle → other ≡ front ++ middle
joined_on front other f r g q middle one two same more =
    let parts : g ++ q ≡ f ++ (r ++ middle) = λ i. sym same i ++ more i in
    let back : f ++ (r ++ middle) ≡ front ++ middle = sym (append_assoc f r middle) ∙ ap (λ (u : List ℕ). u ++ middle) (sym one) in
    two ∙ parts ∙ back

module _ {R X : Type 0} (part : List ℕ → X → Type 0) (own : List ℕ → Faults R) (is_part : IsPart part own) where
  pub goes_on : (front rest other behind : List ℕ) (xs ys : List X) → Numbered (λ (n : ℕ). part) 0 front xs → Numbered (λ (n : ℕ). part) 0 other ys → front ++ rest ≡ other ++ behind → length xs ≤ length ys
      → GoesOn part front rest other behind xs ys
  goes_on front rest other behind [] ys is its e fewer = record {
    later = ys;
    middle = other;
    tiles_are = refl;
    bytes_are = ap (λ (u : List ℕ). u ++ other) (sym is);
    rest_is = ap (λ (u : List ℕ). u ++ rest) (sym is) ∙ e;
    stream = its;
  }
  goes_on front rest other behind (x ∷ xs) [] is its e fewer = absurd (omega (arith, fewer))
  goes_on front rest other behind (x ∷ xs) (y ∷ ys) (f, (r, (joined, (here, more)))) (g, (q, (joined', (here', more')))) e fewer =
      let joins = next_joins front rest other behind f r g q joined joined' e in
      let first = is_part.once f g (r ++ rest) (q ++ behind) x y here here' joins in
      let on = goes_on r rest q behind xs ys (renumbered part 1 0 r xs more) (renumbered part 1 0 q ys more') (same_rest f g (r ++ rest) (q ++ behind) first.0 joins) (omega (arith, fewer)) in
      record {
        later = on.later;
        middle = on.middle;
        tiles_are = λ i. sym first.1 i ∷ on.tiles_are i;
        bytes_are = joined_on front other f r g q on.middle joined joined' first.0 on.bytes_are;
        rest_is = on.rest_is;
        stream = on.stream;
      }

  -- and have a byte at least
  module _ (long : (bytes : List ℕ) (x : X) → part bytes x → 0 < length bytes) where
    no_more : (a front rest : List ℕ) (x : X) → a ≡ [] → a ≡ front ++ rest → part front x → ⊥
    no_more a front rest x empty joined is =
        let size : length a ≡ length (front ++ rest) = ap length joined in
        let none : length a ≡ 0 = ap length empty in
        omega (arith, length-append front rest, long front x is)

    one_list : (k : ℕ) (a b : List ℕ) (xs ys : List X) → a ≡ b → Numbered (λ (n : ℕ). part) k a xs → Numbered (λ (n : ℕ). part) k b ys → xs ≡ ys
    one_list k a b [] [] e na nb = refl
    one_list k a b [] (y ∷ ys) e na (front, (rest, (joined, (is, more)))) = absurd (no_more b front rest y (sym e ∙ na) joined is)
    one_list k a b (x ∷ xs) [] e (front, (rest, (joined, (is, more)))) nb = absurd (no_more a front rest x (e ∙ nb) joined is)
    one_list k a b (x ∷ xs) (y ∷ ys) e (front, (rest, (joined, (is, more)))) (front', (rest', (joined', (is', more')))) =
        let joins : front ++ rest ≡ front' ++ rest' = sym joined ∙ e ∙ joined' in
        let first = is_part.once front front' rest rest' x y is is' joins in
        let later = one_list (suc k) rest rest' xs ys (same_rest front front' rest rest' first.0 joins) more more' in
        λ i. first.1 i ∷ later i

    pub list_once : (bytes : List ℕ) (xs ys : List X) → Numbered (λ (n : ℕ). part) 0 bytes xs → Numbered (λ (n : ℕ). part) 0 bytes ys → xs ≡ ys
    list_once bytes xs ys one two = one_list 0 bytes bytes xs ys refl one two
