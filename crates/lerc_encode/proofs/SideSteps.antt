-- Blocks of both sides, one more at a time: their total, their flags, and their values in a buffer.
use Rattle.std.proofs.Common.{◌≡◌, ℕ, ◌+◌, ◌-◌, ◌/◌, ◌<◌, ◌≤◌, refl, ◌⊎◌, inl, inr, Bool, List, ◌++◌, length, map, take, drop, sym, ap, ◌∙◌, subst, arith, length-append}
use Rattle.std.specs.Prelude.{ℤ, All, ◌↔◌, IsTrue}
use Rattle.std.proofs.lemmas.Bool.{cases_eq, cases_lt}
use Rattle.std.proofs.lemmas.List.{length-take-le, map-append, take-append-drop}
use Rattle.std.proofs.lemmas.List.Elements.{All-append}
use Rattle.std.proofs.Math.Seq.{take-append-add}
use borrow.Rule.Slice.PartMut.{put_mid}
use Rattle.bit_stuff.proofs.Buffers.{end_written}
use Rattle.lut_stuff.specs.declared.naming.Names.{Names}
use Rattle.lut_stuff.specs.Names.{KeepsNames}
use Rattle.micro_block.specs.Named.{AreNamed}
use Rattle.micro_block.proofs.Named.{named_joined, still_named}
use Rattle.raster_cells.specs.declared.kind.PixelType.{PixelType}
use Rattle.raster_cells.specs.Distance.{IsDistance, value_above}
use Rattle.raster_values.specs.Raster.{Pixels}
use Rattle.lerc_header.specs.declared.header.Header.{Header}
use Rattle.lerc_encode.specs.declared.blocks.chosen_blocks.BlockAt.{BlockAt}
use Rattle.lerc_encode.specs.inside.Blocked.{HasTable}
use Rattle.lerc_encode.specs.declared.blocks.flags.Flags.{Flags}
use Rattle.lerc_encode.specs.inside.Flags.{IsFlagged, IsMarked, room_of}
use Rattle.lerc_encode.specs.inside.Sides.{AreMore, IsFlaggedAt, IsMore}

-- ---- totals

pub nothing_more : (most : ℕ) → IsMore most 0 0 0
nothing_more most = record { within = λ le. (omega arith, omega arith); over = λ less. absurd (omega (arith, less)) }

pub two_more : (most n m a b c : ℕ) → IsMore most n a b → IsMore most m b c → IsMore most (n + m) a c
two_more most n m a b c first second = record {
  within = λ le. inside (second.within le);
  over = λ less. outside (second.over less) (cases_lt most b);
}
  where
    inside : (b ≤ most) × (c ≡ b + m) → (a ≤ most) × (c ≡ a + (n + m))
    inside is = let f = first.within is.0 in ((f.0), (let e = f.1 in let g = is.1 in omega (arith, e, g)))

    outside : most < b + m → (most < b) ⊎ (b ≤ most) → most < a + (n + m)
    outside less (inl over) = let f = first.over over in omega (arith, f)
    outside less (inr le) = let f = (first.within le).1 in omega (arith, f, less)

-- ---- flags

pub flags_still : (h : Header) (r : Pixels) (tables : Flags) → AreMore h r tables tables
flags_still h r tables = record { room = refl; group = refl; kept = λ k is. is; sound = λ one k is. inl is }

pub two_flags : (h : Header) (r : Pixels) (a b c : Flags) → AreMore h r a b → AreMore h r b c → AreMore h r a c
two_flags h r a b c first second = record {
  room = second.room ∙ first.room;
  group = second.group ∙ first.group;
  kept = λ k is. second.kept k (first.kept k is);
  sound = λ one k is. back (sym second.group ∙ one) k (second.sound one k is);
}
  where
    back : b.group ≡ 1 → (k : ℕ) → IsMarked b k ⊎ HasTable h r k → IsMarked a k ⊎ HasTable h r k
    back one k (inl set) = first.sound one k set
    back one k (inr has) = inr has

pub one_flag : (h : Header) (r : Pixels) (k : ℕ) (old new : Flags) (told : Bool) → room_of new ≡ room_of old → new.group ≡ old.group → (IsMarked new k ↔ (IsMarked old k ⊎ IsTrue told))
    → ((i : ℕ) → (i / old.group ≡ k / old.group → ⊥) → IsMarked new i ↔ IsMarked old i) → (IsTrue told ↔ HasTable h r k) → AreMore h r old new
one_flag h r k old new told room group this others is = record {
  room = room;
  group = group;
  kept = λ i set. kept_by i set (cases_eq (i / old.group) (k / old.group));
  sound = λ one i set. sound_by (sym group ∙ one) i set (cases_eq i k);
}
  where
    kept_by : (i : ℕ) → IsMarked old i → (i / old.group ≡ k / old.group) ⊎ ((i / old.group ≡ k / old.group) → ⊥) → IsMarked new i
    kept_by i set (inl same) =
        let here : IsMarked new k = this.1 (inl (subst (IsFlagged old.words.items) same set)) in
        let beside : k / new.group ≡ i / new.group = subst (λ n. k / n ≡ i / n) (sym group) (sym same) in
        subst (IsFlagged new.words.items) beside here
    kept_by i set (inr other) = (others i other).1 set

    from : IsMarked old k ⊎ IsTrue told → IsMarked old k ⊎ HasTable h r k
    from (inl set) = inl set
    from (inr t) = inr (is.0 t)

    apart : (n i : ℕ) → n ≡ 1 → i / n ≡ k / n → i ≡ k
    apart n i one same = let e : i / 1 ≡ k / 1 = subst (λ m. i / m ≡ k / m) one same in omega (arith, e)

    sound_by : old.group ≡ 1 → (i : ℕ) → IsMarked new i → (i ≡ k) ⊎ ((i ≡ k) → ⊥) → IsMarked old i ⊎ HasTable h r i
    sound_by one i set (inl same) = subst (λ j. IsMarked old j ⊎ HasTable h r j) (sym same) (from (this.0 (subst (IsMarked new) same set)))
    sound_by one i set (inr other) = inl ((others i (λ e. other (apart old.group i one e))).0 set)

-- what is set stays so
pub flag_stays : (h : Header) (r : Pixels) (spot : BlockAt) (old new : Flags) → AreMore h r old new → IsFlaggedAt h r spot old → IsFlaggedAt h r spot new
flag_stays h r spot old new more is = λ within has. more.kept _ (is within has)

-- ---- values

put_behind : (old new : List ℕ) (at : ℕ) → at ≤ length old → put_mid at (length old - at) old new ≡ take at old ++ new
put_behind old new at within =
    let whole = take-append-drop at old in
    let sizes = length-append (take at old) (drop at old) in
    let all = ap length whole in
    let front : length (take at old) ≡ at = length-take-le at old within in
    ap (λ (xs : List ℕ). put_mid at (length old - at) xs new) (sym whole) ∙ end_written (take at old) (drop at old) new at (length old - at) front (omega (arith, sizes, all, front))

pub taken_behind : (old new : List ℕ) (at n : ℕ) → at ≤ length old → take (at + n) (put_mid at (length old - at) old new) ≡ take at old ++ take n new
taken_behind old new at n within =
    let front : length (take at old) ≡ at = length-take-le at old within in
    ap (take (at + n)) (put_behind old new at within) ∙ ap (λ j. take (j + n) (take at old ++ new)) (sym front) ∙ take-append-add (take at old) new n

pub fit_behind : (kind : PixelType) (old new : List ℕ) (at n : ℕ) → at ≤ length old → All (IsDistance kind) (take at old) → All (IsDistance kind) (take n new)
    → All (IsDistance kind) (take (at + n) (put_mid at (length old - at) old new))
fit_behind kind old new at n within before after = subst (All (IsDistance kind)) (sym (taken_behind old new at n within)) (All-append (IsDistance kind) (take at old) (take n new) before after)

pub are_behind : (kind : PixelType) (old new : List ℕ) (at n : ℕ) (values : List ℤ) → at ≤ length old → map (value_above kind) (take n new) ≡ values
    → map (value_above kind) (take (at + n) (put_mid at (length old - at) old new)) ≡ map (value_above kind) (take at old) ++ values
are_behind kind old new at n values within is =
    ap (map (value_above kind)) (taken_behind old new at n within) ∙ map-append (value_above kind) (take at old) (take n new) ∙ ap (λ (vs : List ℤ). map (value_above kind) (take at old) ++ vs) is

-- ---- names of values

pub named_behind : (names more : Names) (values found new piece : List ℕ) (at n : ℕ) → at ≤ length values → length found ≡ length values → KeepsNames names more
    → AreNamed names (take at values) (take at found) → AreNamed more (take n new) (take n piece)
    → AreNamed more (take (at + n) (put_mid at (length values - at) values new)) (take (at + n) (put_mid at (length found - at) found piece))
named_behind names more values found new piece at n within long kept before after =
    let room : at ≤ length found = omega (arith, within, long) in
    let fronts : length (take at found) ≡ length (take at values) = length-take-le at found room ∙ sym (length-take-le at values within) in
    subst (λ vs. AreNamed more vs (take (at + n) (put_mid at (length found - at) found piece))) (sym (taken_behind values new at n within))
    (subst (AreNamed more (take at values ++ take n new)) (sym (taken_behind found piece at n room))
    (named_joined more (take at values) (take n new) (take at found) (take n piece) fronts (still_named names more (take at values) (take at found) kept before) after))
