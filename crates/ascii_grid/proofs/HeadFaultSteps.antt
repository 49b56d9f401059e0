-- What is wrong behind some pairs.
use Rattle.std.proofs.Common.{◌≡◌, ℕ, List, [], ◌∷◌, ◌++◌, Option, Err, refl, sym, subst, inl, inr}
use Rattle.first_fault.specs.Faults.{Faults, unless, wrong}
use Rattle.ascii_grid.specs.Tokens.{TokenAt}
use Rattle.ascii_grid.specs.Endings.{ending}
use Rattle.ascii_grid.specs.declared.fault.AsciiReason.{AsciiReason}
use Rattle.ascii_grid.specs.declared.fault.AsciiReason.TheVariants.{BadKey, Missing, Repeated}
use Rattle.ascii_grid.specs.declared.fault.AsciiStop.{AsciiStop}
use Rattle.ascii_grid.specs.declared.fault.AsciiStop.TheVariants.{Fault, Source, OutOfMemory}
use Rattle.ascii_grid.specs.declared.words.Key.{Key}
use Rattle.ascii_grid.specs.Head.{ArePairs, BeginsWithLetter, Has, HasAll, HeadFaults, IsKey, Pair, behind_key, flat, next_faults, value_faults}
use Rattle.ascii_grid.specs.inside.Heads.{HeadRead}
use Rattle.ascii_grid.specs.inside.Reading.{Held}
use Rattle.ascii_grid.specs.inside.Steps.{Demanded}

-- pairs that stand, and a fault behind them
made : (last : Faults AsciiReason) (tokens rest : List TokenAt) (ps : List Pair) (place : ℕ) (reason : AsciiReason) → ArePairs [] ps → tokens ≡ flat ps ++ rest → next_faults last ps rest place reason → HeadFaults last tokens place reason
made last tokens rest ps place reason stand joined next = record { before = ps; rest = rest; joined = joined; stand = stand; next = next }

told : (left : Option (List ℕ)) (window : Held) (total : ℕ) (tokens : List TokenAt) (e : AsciiStop) (reason : AsciiReason) (place : ℕ) → e ≡ Fault (record { reason = reason; place = place }) → HeadFaults (ending total) tokens place reason → HeadRead (Err e) left window total tokens
told left window total tokens e reason place is faults = subst (λ (s : AsciiStop). HeadRead (Err s) left window total tokens) (sym is) faults

-- the text ends where a word or a number is owed
pub head_end : (left : Option (List ℕ)) (window : Held) (total : ℕ) (tokens rest : List TokenAt) (ps : List Pair) (e : AsciiStop) → ArePairs [] ps → tokens ≡ flat ps ++ rest → Demanded (Err e) left window total rest → HeadRead (Err e) left window total tokens
head_end left window total tokens rest ps (Fault f) stand joined (empty, last) =
    made (ending total) tokens rest ps f.place f.reason stand joined (subst (λ (r : List TokenAt). next_faults (ending total) ps r f.place f.reason) (sym empty) last)
head_end left window total tokens rest ps Source stand joined told_ = tt
head_end left window total tokens rest ps OutOfMemory stand joined told_ = told_

pub head_missing : (left : Option (List ℕ)) (window : Held) (total : ℕ) (tokens rest : List TokenAt) (ps : List Pair) (e : AsciiStop) (t : TokenAt) → ArePairs [] ps → tokens ≡ flat ps ++ t ∷ rest → ¬ BeginsWithLetter t.bytes → ¬ HasAll ps → e ≡ Fault (record { reason = Missing; place = t.place })
    → HeadRead (Err e) left window total tokens
head_missing left window total tokens rest ps e t stand joined plain lacks is =
    told left window total tokens e Missing t.place is (made (ending total) tokens (t ∷ rest) ps t.place Missing stand joined (inr (plain, inr (lacks, (refl, refl)))))

pub head_none_key : (left : Option (List ℕ)) (window : Held) (total : ℕ) (tokens rest : List TokenAt) (ps : List Pair) (e : AsciiStop) (t : TokenAt) → ArePairs [] ps → tokens ≡ flat ps ++ t ∷ rest → BeginsWithLetter t.bytes → ((key : Key) → ¬ IsKey t.bytes key) → e ≡ Fault (record { reason = BadKey; place = t.place })
    → HeadRead (Err e) left window total tokens
head_none_key left window total tokens rest ps e t stand joined letter unknown is =
    told left window total tokens e BadKey t.place is (made (ending total) tokens (t ∷ rest) ps t.place BadKey stand joined (inl (letter, inl (unknown, (refl, refl)))))

key_wrong : (last : Faults AsciiReason) (tokens rest : List TokenAt) (ps : List Pair) (t : TokenAt) (key : Key) (place : ℕ) (reason : AsciiReason) → ArePairs [] ps → tokens ≡ flat ps ++ t ∷ rest → BeginsWithLetter t.bytes → IsKey t.bytes key
    → unless (¬ Has ps key) (wrong Repeated t.place) (behind_key last ps key rest) place reason → HeadFaults last tokens place reason
key_wrong last tokens rest ps t key place reason stand joined letter named fault =
    made last tokens (t ∷ rest) ps place reason stand joined (inl (letter, inr (record { key = key; is = named; fault = fault })))

pub head_repeated : (left : Option (List ℕ)) (window : Held) (total : ℕ) (tokens rest : List TokenAt) (ps : List Pair) (e : AsciiStop) (t : TokenAt) (key : Key) → ArePairs [] ps → tokens ≡ flat ps ++ t ∷ rest → BeginsWithLetter t.bytes → IsKey t.bytes key → Has ps key → e ≡ Fault (record { reason = Repeated; place = t.place })
    → HeadRead (Err e) left window total tokens
head_repeated left window total tokens rest ps e t key stand joined letter named has is =
    told left window total tokens e Repeated t.place is (key_wrong (ending total) tokens rest ps t key t.place Repeated stand joined letter named (inr ((λ never. never has), (refl, refl))))

-- the text ends behind a keyword
pub head_value_end : (left : Option (List ℕ)) (window : Held) (total : ℕ) (tokens rest : List TokenAt) (ps : List Pair) (e : AsciiStop) (t : TokenAt) (key : Key) → ArePairs [] ps → tokens ≡ flat ps ++ t ∷ rest → BeginsWithLetter t.bytes → IsKey t.bytes key → (¬ Has ps key) → Demanded (Err e) left window total rest
    → HeadRead (Err e) left window total tokens
head_value_end left window total tokens rest ps (Fault f) t key stand joined letter named new (empty, last) =
    key_wrong (ending total) tokens rest ps t key f.place f.reason stand joined letter named (inl (new, subst (λ (r : List TokenAt). behind_key (ending total) ps key r f.place f.reason) (sym empty) last))
head_value_end left window total tokens rest ps Source t key stand joined letter named new told_ = tt
head_value_end left window total tokens rest ps OutOfMemory t key stand joined letter named new told_ = told_

-- the value is wrong
pub head_value : (left : Option (List ℕ)) (window : Held) (total : ℕ) (tokens rest : List TokenAt) (ps : List Pair) (e : AsciiStop) (t v : TokenAt) (key : Key) (reason : AsciiReason) (place : ℕ) → ArePairs [] ps → tokens ≡ flat ps ++ t ∷ v ∷ rest → BeginsWithLetter t.bytes → IsKey t.bytes key → (¬ Has ps key)
    → value_faults ps key v v.place reason → place ≡ v.place → e ≡ Fault (record { reason = reason; place = place }) → HeadRead (Err e) left window total tokens
head_value left window total tokens rest ps e t v key reason place stand joined letter named new fault at is =
    told left window total tokens e reason place is (key_wrong (ending total) tokens (v ∷ rest) ps t key place reason stand joined letter named (inl (new, subst (λ (p : ℕ). value_faults ps key v p reason) (sym at) fault)))
