-- A recovery has one answer.
use Rattle.std.proofs.Common.{◌≡◌, ◌≢◌, ◌⊎◌, inl, inr, refl, ℕ, ◌<◌, ◌≤◌, List, length, Result, Ok, Err, sym, ◌∙◌, ap, subst, arith}
use Rattle.side_journal.specs.declared.body.Body.{Body}
use Rattle.side_journal.specs.declared.body.Body.TheVariants.{Tile, Build, Group}
use Rattle.side_journal.specs.declared.body.JournalState.{JournalState}
use Rattle.side_journal.specs.declared.body.JournalState.TheVariants.{Closed as Shut, Open, Bad}
use Rattle.side_journal.specs.Says.{Says, SaysBody, SaysBuild}
use Rattle.side_journal.proofs.OneState.{one_state}
use Rattle.bundle_store.specs.declared.fault.StoreFault.{StoreFault}
use Rattle.bundle_store.specs.declared.fault.StoreFault.TheVariants.{Device, BadBundle, BadJournal, NoTile, Beyond, TileTooLarge, EmptyTile, Full, NotEmpty, OutOfMemory, Stopped}
use Rattle.bundle_store.specs.declared.recovery.Recovery.{Recovery}
use Rattle.bundle_store.specs.declared.recovery.Recovery.TheVariants.{Closed, Applied, Emptied}
use Rattle.bundle_store.specs.LaidOver.{IsOfTiles, size_in, size_place, with_body}
use Rattle.bundle_store.specs.Recover.{AppliesTo, Leaves, RecoverySays}

-- the answer beside a bundle of so many bytes, where the journal names such a length at this place
abbrev OfTiles : ℕ → ℕ → ℕ → Result Recovery StoreFault → Type 0
OfTiles size n place r = ((n ≤ size) × (r ≡ Ok Applied)) ⊎ ((size < n) × (r ≡ Err (BadJournal place n)))

-- the answer beside it, by what the journal says
abbrev Answers : ℕ → JournalState → Result Recovery StoreFault → Type 0
Answers size Shut r = r ≡ Ok Closed
Answers size (Open Build) r = r ≡ Ok Emptied
Answers size (Open (Tile slot e n header)) r = OfTiles size n 24 r
Answers size (Open (Group es n header)) r = OfTiles size n 16 r
Answers size (Bad place found) r = r ≡ Err (BadJournal place found)

-- a body of tiles decides by its length alone
of_tiles : (size : ℕ) (body : Body) (r : Result Recovery StoreFault) → IsOfTiles body → OfTiles size (size_in body) (size_place body) r → Answers size (Open body) r
of_tiles size (Tile slot e n header) r tiles answers = answers
of_tiles size Build r tiles answers = absurd tiles
of_tiles size (Group es n header) r tiles answers = answers

record Found (b j : List ℕ) (r : Result Recovery StoreFault) : Type 0 where
  state : JournalState
  says : Says j state
  answers : Answers (length b) state r

found : (b j : List ℕ) (r : Result Recovery StoreFault) → RecoverySays b j r → r ≢ Err Device → Found b j r
found b j (Ok Closed) is not = record { state = Shut; says = is; answers = refl }
found b j (Ok Applied) is not = record { state = Open is.body; says = (is.opened, is.says); answers = of_tiles (length b) is.body (Ok Applied) is.tiles (inl (is.within, refl)) }
found b j (Ok Emptied) is not = record { state = Open Build; says = is; answers = refl }
found b j (Err Device) is not = absurd (not refl)
found b j (Err (BadJournal place number)) (opened, inl fails) not = record { state = Bad place number; says = (opened, fails); answers = refl }
found b j (Err (BadJournal place number)) (opened, inr is) not = record {
  state = Open is.body;
  says = (opened, is.says);
  answers = of_tiles (length b) is.body (Err (BadJournal place number)) is.tiles (inr (subst (λ (n : ℕ). length b < n) is.is is.short, λ i. Err (BadJournal (is.at i) (is.is i))));
}
found b j (Err (BadBundle place number)) is not = absurd is
found b j (Err NoTile) is not = absurd is
found b j (Err (Beyond entry got)) is not = absurd is
found b j (Err (TileTooLarge at len)) is not = absurd is
found b j (Err (EmptyTile at)) is not = absurd is
found b j (Err (Full len)) is not = absurd is
found b j (Err (NotEmpty len)) is not = absurd is
found b j (Err OutOfMemory) is not = absurd is
found b j (Err Stopped) is not = absurd is

same_tiles : (size n place : ℕ) (r t : Result Recovery StoreFault) → OfTiles size n place r → OfTiles size n place t → r ≡ t
same_tiles size n place r t (inl one) (inl two) = one.1 ∙ sym two.1
same_tiles size n place r t (inl one) (inr two) = absurd (let no : ⊥ = omega (arith, one.0, two.0) in no)
same_tiles size n place r t (inr one) (inl two) = absurd (let no : ⊥ = omega (arith, one.0, two.0) in no)
same_tiles size n place r t (inr one) (inr two) = one.1 ∙ sym two.1

same_answer : (size : ℕ) (s : JournalState) (r t : Result Recovery StoreFault) → Answers size s r → Answers size s t → r ≡ t
same_answer size Shut r t one two = one ∙ sym two
same_answer size (Open Build) r t one two = one ∙ sym two
same_answer size (Open (Tile slot e n header)) r t one two = same_tiles size n 24 r t one two
same_answer size (Open (Group es n header)) r t one two = same_tiles size n 16 r t one two
same_answer size (Bad place number) r t one two = one ∙ sym two

pub one_answer : (b j : List ℕ) (one two : Result Recovery StoreFault) → RecoverySays b j one → RecoverySays b j two → one ≢ Err Device → two ≢ Err Device → one ≡ two
one_answer b j one two first second some other =
    let f = found b j one first some in
    let s = found b j two second other in
    same_answer (length b) f.state one two f.answers (subst (λ (x : JournalState). Answers (length b) x two) (one_state j s.state f.state s.says f.says) s.answers)

-- ---- what recoveries of the same files leave

same_open : (one two : Body) → ◌≡◌ {A = JournalState} (Open one) (Open two) → one ≡ two
same_open one two is = cc

one_over : (b j : List ℕ) (one two : AppliesTo b j) → with_body one.body b ≡ with_body two.body b
one_over b j one two = ap (λ (x : Body). with_body x b) (same_open one.body two.body (one_state j (Open one.body) (Open two.body) (one.opened, one.says) (two.opened, two.says)))

no_build : (j : List ℕ) (body : Body) → IsOfTiles body → SaysBody j body → SaysBuild j → ⊥
no_build j (Tile slot e n header) tiles says build = absurd (let no : ⊥ = omega (arith, says.kind, build.kind) in no)
no_build j Build tiles says build = absurd tiles
no_build j (Group es n header) tiles says build = absurd (let no : ⊥ = omega (arith, says.kind, build.kind) in no)

pub one_left : (b j : List ℕ) (one two : Recovery) (left other : List ℕ) → Leaves b j one left → Leaves b j two other → (one ≡ two) × (left ≡ other)
one_left b j Closed Closed left other l m = (refl, l.1 ∙ sym m.1)
one_left b j Closed Applied left other l m = absurd (l.0 m.0.opened)
one_left b j Closed Emptied left other l m = absurd (l.0 m.0)
one_left b j Applied Closed left other l m = absurd (m.0 l.0.opened)
one_left b j Applied Applied left other l m = (refl, l.1 ∙ one_over b j l.0 m.0 ∙ sym m.1)
one_left b j Applied Emptied left other l m = absurd (no_build j l.0.body l.0.tiles l.0.says m.1)
one_left b j Emptied Closed left other l m = absurd (m.0 l.0)
one_left b j Emptied Applied left other l m = absurd (no_build j m.0.body m.0.tiles m.0.says l.1)
one_left b j Emptied Emptied left other l m = (refl, l.2 ∙ sym m.2)
