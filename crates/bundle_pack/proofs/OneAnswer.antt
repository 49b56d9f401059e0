-- Packing has one answer.
use Rattle.std.proofs.Common.{◌≡◌, ◌⊎◌, inl, inr, ℕ, ◌-◌, ◌<◌, List, [], length, slice_get, Some, None, Result, Ok, Err, refl, sym, ap, subst, ◌∙◌, arith}
use Rattle.std.proofs.lemmas.Bool.{cases_lt}
use Rattle.bundle_index.specs.Entry.{entry_at}
use Rattle.bundle_index.specs.declared.entry.Entry.{Entry}
use Rattle.bundle_store.specs.declared.fault.StoreFault.{StoreFault}
use Rattle.bundle_store.specs.declared.fault.StoreFault.TheVariants.{Device, BadBundle, BadJournal, NoTile, Beyond, TileTooLarge, EmptyTile, Full, NotEmpty, OutOfMemory as StoreMemory, Stopped}
use Rattle.bundle_store.specs.Built.{filled}
use Rattle.bundle_store.specs.Layout.{layout}
use Rattle.opened_bundle.specs.Files.{Files}
use Rattle.bundle_pack.specs.Chosen.{AreWhole, IsChosen, chosen_bytes, most_bytes}
use Rattle.bundle_pack.specs.Opening.{AreOpened, IsFirstUnopened, OpeningFault, OpensAs}
use Rattle.bundle_pack.specs.Packing.{AreRead, AreTaken, IsFirstBeyond, IsFree, PackSays, SourceSays, TargetFault, merged_tiles}
use Rattle.bundle_pack.specs.declared.fault.PackFault.{PackFault}
use Rattle.bundle_pack.specs.declared.fault.PackFault.TheVariants.{Source, Target, KeptTooMuch, OutOfMemory}
use Rattle.bundle_pack.specs.declared.packing.PackReport.{PackReport}
use Rattle.bundle_pack.proofs.Choosing.{chosen_number}
use Rattle.bundle_pack.proofs.Opened.{all_opened, one_fault, one_opened, one_unopened, opened_or_not, opens_or_fails}
use Rattle.bundle_pack.proofs.Volumes.{one_some}

-- ---- what each answer says, by itself

record Unopened (sources : List Files) (r : Result PackReport PackFault) : Type 0 where
  at : ℕ
  fault : StoreFault
  is : r ≡ Err (Source at None fault)
  first : IsFirstUnopened sources at fault
  not : fault ≡ Device → ⊥

record TooMuch (sources : List Files) (r : Result PackReport PackFault) : Type 0 where
  len : ℕ
  is : r ≡ Err (KeptTooMuch len)
  bundles : List (List ℕ)
  opened : AreOpened sources bundles
  sum : len ≡ chosen_bytes bundles 16384
  many : most_bytes < len

record Beyonds (sources : List Files) (r : Result PackReport PackFault) : Type 0 where
  at : ℕ
  slot : ℕ
  entry : Entry
  got : ℕ
  is : r ≡ Err (Source at (Some slot) (Beyond entry got))
  bundles : List (List ℕ)
  taken : AreTaken sources bundles
  first : IsFirstBeyond bundles at slot entry got

record Targets (sources : List Files) (target : Files) (r : Result PackReport PackFault) : Type 0 where
  fault : StoreFault
  is : r ≡ Err (Target fault)
  bundles : List (List ℕ)
  read : AreRead sources bundles
  fails : TargetFault target fault
  not : fault ≡ Device → ⊥

record Packed (sources : List Files) (target : Files) (r : Result PackReport PackFault) : Type 0 where
  report : PackReport
  is : r ≡ Ok report
  bundles : List (List ℕ)
  read : AreRead sources bundles
  empty : OpensAs target []
  tiles : report.tiles ≡ filled (merged_tiles bundles) 16384
  size : report.length ≡ length (layout (merged_tiles bundles))

abbrev Seen : List Files → Files → Result PackReport PackFault → Type 0
Seen sources target r = Unopened sources r ⊎ (TooMuch sources r ⊎ (Beyonds sources r ⊎ (Targets sources target r ⊎ Packed sources target r)))

pub unopened_by : (sources : List Files) (at : ℕ) (fault : StoreFault) → SourceSays sources at None fault → (fault ≡ Device → ⊥) → IsFirstUnopened sources at fault
unopened_by sources at Device says not = absurd (not refl)
unopened_by sources at (BadBundle place found) says not = says
unopened_by sources at (BadJournal place found) says not = says
unopened_by sources at NoTile says not = says
unopened_by sources at (Beyond entry got) says not = says
unopened_by sources at (TileTooLarge place len) says not = says
unopened_by sources at (EmptyTile place) says not = says
unopened_by sources at (Full len) says not = says
unopened_by sources at (NotEmpty len) says not = says
unopened_by sources at StoreMemory says not = says
unopened_by sources at Stopped says not = says

beyond_by : (sources : List Files) (at slot : ℕ) (fault : StoreFault) → SourceSays sources at (Some slot) fault → Beyonds sources (Err (Source at (Some slot) fault))
beyond_by sources at slot (Beyond entry got) (bundles, (taken, first)) = record { at = at; slot = slot; entry = entry; got = got; is = refl; bundles = bundles; taken = taken; first = first }
beyond_by sources at slot Device says = absurd says
beyond_by sources at slot (BadBundle place found) says = absurd says
beyond_by sources at slot (BadJournal place found) says = absurd says
beyond_by sources at slot NoTile says = absurd says
beyond_by sources at slot (TileTooLarge place len) says = absurd says
beyond_by sources at slot (EmptyTile place) says = absurd says
beyond_by sources at slot (Full len) says = absurd says
beyond_by sources at slot (NotEmpty len) says = absurd says
beyond_by sources at slot StoreMemory says = absurd says
beyond_by sources at slot Stopped says = absurd says

seen : (sources : List Files) (target : Files) (r : Result PackReport PackFault) → PackSays sources target r → (IsFree r → ⊥) → Seen sources target r
seen sources target (Ok report) (bundles, (read, (empty, (tiles, size)))) free = inr (inr (inr (inr (record { report = report; is = refl; bundles = bundles; read = read; empty = empty; tiles = tiles; size = size }))))
seen sources target (Err (Source at None fault)) says free =
    let not : fault ≡ Device → ⊥ = λ e. free (subst (λ (f : StoreFault). IsFree (Err (Source at None f))) (sym e) tt) in
    inl (record { at = at; fault = fault; is = refl; first = unopened_by sources at fault says not; not = not })
seen sources target (Err (Source at (Some slot) fault)) says free = inr (inr (inl (beyond_by sources at slot fault says)))
seen sources target (Err (Target fault)) ((bundles, read), fails) free =
    inr (inr (inr (inl (record { fault = fault; is = refl; bundles = bundles; read = read; fails = fails; not = λ e. free (subst (λ (f : StoreFault). IsFree (Err (Target f))) (sym e) tt) }))))
seen sources target (Err (KeptTooMuch len)) (bundles, (opened, (sum, many))) free = inr (inl (record { len = len; is = refl; bundles = bundles; opened = opened; sum = sum; many = many }))
seen sources target (Err OutOfMemory) says free = absurd (free tt)

-- ---- two that differ

much_or_few : (sources : List Files) (r : Result PackReport PackFault) (bundles : List (List ℕ)) → TooMuch sources r → AreTaken sources bundles → ⊥
much_or_few sources r bundles one taken =
    let same : one.bundles ≡ bundles = all_opened sources one.bundles bundles one.opened taken.opened in
    let e : chosen_bytes one.bundles 16384 ≡ chosen_bytes bundles 16384 = ap (λ (bs : List (List ℕ)). chosen_bytes bs 16384) same in
    omega (arith, one.sum, one.many, e, taken.few)

beyond_whole : (bundles : List (List ℕ)) (at slot n : ℕ) (entry : Entry) (got : ℕ) → IsFirstBeyond bundles at slot entry got → slot < n → AreWhole bundles n → ⊥
beyond_whole bundles at slot n entry got first less whole =
    let within = whole slot at first.bundle less first.chosen in
    let offset : entry.offset ≡ (entry_at first.bundle slot).offset = ap (λ (e : Entry). e.offset) first.beyond.entry_is in
    let size : entry.size ≡ (entry_at first.bundle slot).size = ap (λ (e : Entry). e.size) first.beyond.entry_is in
    omega (arith, within, offset, size, first.beyond.got_is, first.more)

beyond_or_read : (sources : List Files) (r : Result PackReport PackFault) (bundles : List (List ℕ)) → Beyonds sources r → AreRead sources bundles → ⊥
beyond_or_read sources r bundles one read =
    let same : one.bundles ≡ bundles = all_opened sources one.bundles bundles one.taken.opened read.taken.opened in
    beyond_whole one.bundles one.at one.slot 16384 one.entry one.got one.first one.first.within (subst (λ (bs : List (List ℕ)). AreWhole bs 16384) (sym same) read.whole)

left_or_length : (target : Files) (fault : StoreFault) (left : List ℕ) → TargetFault target fault → (fault ≡ Device → ⊥) → OpensAs target left → (len : ℕ) × ((fault ≡ NotEmpty len) × ((len ≡ length left) × (0 < len)))
left_or_length target (NotEmpty len) left (other, (opens, (is, some))) not opened =
    let same : other ≡ left = one_opened target other left opens opened in
    (len, (refl, (is ∙ ap (λ (b : List ℕ). length b) same, some)))
left_or_length target Device left fails not opened = absurd (not refl)
left_or_length target (BadBundle place found) left fails not opened = absurd (opens_or_fails target left (BadBundle place found) opened fails not)
left_or_length target (BadJournal place found) left fails not opened = absurd (opens_or_fails target left (BadJournal place found) opened fails not)
left_or_length target NoTile left fails not opened = absurd fails
left_or_length target (Beyond entry got) left fails not opened = absurd fails
left_or_length target (TileTooLarge place len) left fails not opened = absurd fails
left_or_length target (EmptyTile place) left fails not opened = absurd fails
left_or_length target (Full len) left fails not opened = absurd fails
left_or_length target StoreMemory left fails not opened = absurd fails
left_or_length target Stopped left fails not opened = absurd fails

target_or_empty : (target : Files) (fault : StoreFault) → TargetFault target fault → (fault ≡ Device → ⊥) → OpensAs target [] → ⊥
target_or_empty target fault fails not opened = let l = left_or_length target fault [] fails not opened in omega (arith, l.1.1.0, l.1.1.1)

-- ---- two of one kind

same_unopened : (sources : List Files) (r s : Result PackReport PackFault) → Unopened sources r → Unopened sources s → r ≡ s
same_unopened sources r s one two =
    let same = one_unopened sources one.at two.at one.fault two.fault one.first two.first one.not two.not in
    one.is ∙ (λ i. Err (Source (same.0 i) None (same.1 i))) ∙ sym two.is

same_much : (sources : List Files) (r s : Result PackReport PackFault) → TooMuch sources r → TooMuch sources s → r ≡ s
same_much sources r s one two =
    let same : one.bundles ≡ two.bundles = all_opened sources one.bundles two.bundles one.opened two.opened in
    let e : one.len ≡ two.len = one.sum ∙ ap (λ (bs : List (List ℕ)). chosen_bytes bs 16384) same ∙ sym two.sum in
    one.is ∙ (λ i. Err (KeptTooMuch (e i))) ∙ sym two.is

one_beyond : (bundles : List (List ℕ)) (at other slot there : ℕ) (entry again : Entry) (got more : ℕ) → IsFirstBeyond bundles at slot entry got → IsFirstBeyond bundles other there again more
    → (at ≡ other) × ((slot ≡ there) × ((entry ≡ again) × (got ≡ more)))
one_beyond bundles at other slot there entry again got more one two = elim (cases_lt slot there) [
  | inl less ↦ absurd (beyond_whole bundles at slot there entry got one less two.before)
  | inr ge ↦ elim (cases_lt there slot) [
    | inl above ↦ absurd (beyond_whole bundles other there slot again more two above one.before)
    | inr le ↦
        let slots : slot ≡ there = omega (arith, ge, le) in
        let chosen : IsChosen bundles slot other two.bundle = subst (λ (k : ℕ). IsChosen bundles k other two.bundle) (sym slots) two.chosen in
        let number : at ≡ other = chosen_number bundles slot at other one.bundle two.bundle one.chosen chosen in
        let bundle : one.bundle ≡ two.bundle = one_some one.bundle two.bundle (sym one.chosen.there ∙ ap (slice_get bundles) number ∙ two.chosen.there) in
        let entries : entry ≡ again = one.beyond.entry_is ∙ (λ i. entry_at (bundle i) (slots i)) ∙ sym two.beyond.entry_is in
        (number, (slots, (entries, one.beyond.got_is ∙ (λ i. length (bundle i) - (entries i).offset) ∙ sym two.beyond.got_is)))
  ]
]

same_beyond : (sources : List Files) (r s : Result PackReport PackFault) → Beyonds sources r → Beyonds sources s → r ≡ s
same_beyond sources r s one two =
    let same : one.bundles ≡ two.bundles = all_opened sources one.bundles two.bundles one.taken.opened two.taken.opened in
    let all = one_beyond two.bundles one.at two.at one.slot two.slot one.entry two.entry one.got two.got (subst (λ (bs : List (List ℕ)). IsFirstBeyond bs one.at one.slot one.entry one.got) same one.first) two.first in
    one.is ∙ (λ i. Err (Source (all.0 i) (Some (all.1.0 i)) (Beyond (all.1.1.0 i) (all.1.1.1 i)))) ∙ sym two.is

opening_fault : (target : Files) (a b : StoreFault) → OpeningFault target a → TargetFault target b → (a ≡ Device → ⊥) → (b ≡ Device → ⊥) → a ≡ b
opening_fault target a (NotEmpty len) one (left, (opens, (is, some))) not never = absurd (opens_or_fails target left a opens one not)
opening_fault target a Device one two not never = absurd (never refl)
opening_fault target a (BadBundle place found) one two not never = one_fault target a (BadBundle place found) one two not never
opening_fault target a (BadJournal place found) one two not never = one_fault target a (BadJournal place found) one two not never
opening_fault target a NoTile one two not never = absurd two
opening_fault target a (Beyond entry got) one two not never = absurd two
opening_fault target a (TileTooLarge place len) one two not never = absurd two
opening_fault target a (EmptyTile place) one two not never = absurd two
opening_fault target a (Full len) one two not never = absurd two
opening_fault target a StoreMemory one two not never = absurd two
opening_fault target a Stopped one two not never = absurd two

target_fault : (target : Files) (a b : StoreFault) → TargetFault target a → TargetFault target b → (a ≡ Device → ⊥) → (b ≡ Device → ⊥) → a ≡ b
target_fault target (NotEmpty len) b (left, (opens, (is, some))) two not never =
    let l = left_or_length target b left two never opens in
    let e : len ≡ l.0 = is ∙ sym l.1.1.0 in ap NotEmpty e ∙ sym l.1.0
target_fault target Device b one two not never = absurd (not refl)
target_fault target (BadBundle place found) b one two not never = opening_fault target (BadBundle place found) b one two not never
target_fault target (BadJournal place found) b one two not never = opening_fault target (BadJournal place found) b one two not never
target_fault target NoTile b one two not never = absurd one
target_fault target (Beyond entry got) b one two not never = absurd one
target_fault target (TileTooLarge place len) b one two not never = absurd one
target_fault target (EmptyTile place) b one two not never = absurd one
target_fault target (Full len) b one two not never = absurd one
target_fault target StoreMemory b one two not never = absurd one
target_fault target Stopped b one two not never = absurd one

same_target : (sources : List Files) (target : Files) (r s : Result PackReport PackFault) → Targets sources target r → Targets sources target s → r ≡ s
same_target sources target r s one two = one.is ∙ ap (λ (f : StoreFault). Err (Target f)) (target_fault target one.fault two.fault one.fails two.fails one.not two.not) ∙ sym two.is

same_packed : (sources : List Files) (target : Files) (r s : Result PackReport PackFault) → Packed sources target r → Packed sources target s → r ≡ s
same_packed sources target r s one two =
    let same : one.bundles ≡ two.bundles = all_opened sources one.bundles two.bundles one.read.taken.opened two.read.taken.opened in
    let tiles : one.report.tiles ≡ two.report.tiles = one.tiles ∙ ap (λ (bs : List (List ℕ)). filled (merged_tiles bs) 16384) same ∙ sym two.tiles in
    let size : one.report.length ≡ two.report.length = one.size ∙ ap (λ (bs : List (List ℕ)). length (layout (merged_tiles bs))) same ∙ sym two.size in
    one.is ∙ (λ i. Ok (record { tiles = tiles i; length = size i })) ∙ sym two.is

-- ---- one answer

pub one_answer : (sources : List Files) (target : Files) (r s : Result PackReport PackFault) → PackSays sources target r → PackSays sources target s → (IsFree r → ⊥) → (IsFree s → ⊥) → r ≡ s
one_answer sources target r s one two free bound = pick (seen sources target r one free) (seen sources target s two bound)
  where
    un : (t : Result PackReport PackFault) (bundles : List (List ℕ)) → Unopened sources t → AreOpened sources bundles → ⊥
    un t bundles a opened = opened_or_not sources bundles a.at a.fault opened a.first a.not

    pick : Seen sources target r → Seen sources target s → r ≡ s
    pick (inl a) (inl b) = same_unopened sources r s a b
    pick (inl a) (inr (inl b)) = absurd (un r b.bundles a b.opened)
    pick (inl a) (inr (inr (inl b))) = absurd (un r b.bundles a b.taken.opened)
    pick (inl a) (inr (inr (inr (inl b)))) = absurd (un r b.bundles a b.read.taken.opened)
    pick (inl a) (inr (inr (inr (inr b)))) = absurd (un r b.bundles a b.read.taken.opened)
    pick (inr (inl a)) (inl b) = absurd (un s a.bundles b a.opened)
    pick (inr (inl a)) (inr (inl b)) = same_much sources r s a b
    pick (inr (inl a)) (inr (inr (inl b))) = absurd (much_or_few sources r b.bundles a b.taken)
    pick (inr (inl a)) (inr (inr (inr (inl b)))) = absurd (much_or_few sources r b.bundles a b.read.taken)
    pick (inr (inl a)) (inr (inr (inr (inr b)))) = absurd (much_or_few sources r b.bundles a b.read.taken)
    pick (inr (inr (inl a))) (inl b) = absurd (un s a.bundles b a.taken.opened)
    pick (inr (inr (inl a))) (inr (inl b)) = absurd (much_or_few sources s a.bundles b a.taken)
    pick (inr (inr (inl a))) (inr (inr (inl b))) = same_beyond sources r s a b
    pick (inr (inr (inl a))) (inr (inr (inr (inl b)))) = absurd (beyond_or_read sources r b.bundles a b.read)
    pick (inr (inr (inl a))) (inr (inr (inr (inr b)))) = absurd (beyond_or_read sources r b.bundles a b.read)
    pick (inr (inr (inr (inl a)))) (inl b) = absurd (un s a.bundles b a.read.taken.opened)
    pick (inr (inr (inr (inl a)))) (inr (inl b)) = absurd (much_or_few sources s a.bundles b a.read.taken)
    pick (inr (inr (inr (inl a)))) (inr (inr (inl b))) = absurd (beyond_or_read sources s a.bundles b a.read)
    pick (inr (inr (inr (inl a)))) (inr (inr (inr (inl b)))) = same_target sources target r s a b
    pick (inr (inr (inr (inl a)))) (inr (inr (inr (inr b)))) = absurd (target_or_empty target a.fault a.fails a.not b.empty)
    pick (inr (inr (inr (inr a)))) (inl b) = absurd (un s a.bundles b a.read.taken.opened)
    pick (inr (inr (inr (inr a)))) (inr (inl b)) = absurd (much_or_few sources s a.bundles b a.read.taken)
    pick (inr (inr (inr (inr a)))) (inr (inr (inl b))) = absurd (beyond_or_read sources s a.bundles b a.read)
    pick (inr (inr (inr (inr a)))) (inr (inr (inr (inl b)))) = absurd (target_or_empty target b.fault b.fails b.not a.empty)
    pick (inr (inr (inr (inr a)))) (inr (inr (inr (inr b)))) = same_packed sources target r s a b
