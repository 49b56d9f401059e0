-- How many tiles there are of each verdict.
use Rattle.std.proofs.Common.{◌≡◌, ◌+◌, ◌∷◌, [], List, true, false, refl, arith}
use Rattle.std.specs.Prelude.{cond}
use Rattle.std.proofs.lemmas.List.Sums.{sum_by-cons}
use Rattle.tile_audit.specs.declared.judged.Judged.TheVariants.{Whole, Summed, Foreign, Unread, Damaged}
use Rattle.tile_audit.specs.declared.told.AuditedTile.{AuditedTile}
use Rattle.tile_audit.specs.declared.told.Finding.{Finding}
use Rattle.tile_audit.specs.declared.told.Finding.TheVariants.{Failed, Beyond, Read}
use Rattle.tile_audit.specs.Audit.{count_of, is_damaged, is_foreign, is_summed, is_unread, is_whole}

-- a tile is of one verdict
pub one_of : (f : Finding) → cond (is_whole f) 1 0 + cond (is_summed f) 1 0 + cond (is_foreign f) 1 0 + cond (is_unread f) 1 0 + cond (is_damaged false f) 1 0 ≡ 1
one_of Failed = refl
one_of (Beyond got) = refl
one_of (Read (Whole s) sum true) = refl
one_of (Read (Whole s) sum false) = refl
one_of (Read Summed sum true) = refl
one_of (Read Summed sum false) = refl
one_of (Read Foreign sum true) = refl
one_of (Read Foreign sum false) = refl
one_of (Read Unread sum true) = refl
one_of (Read Unread sum false) = refl
one_of (Read (Damaged f) sum true) = refl
one_of (Read (Damaged f) sum false) = refl

-- where that is strict, another format and another version are damage, too
strictly : (f : Finding) → cond (is_damaged true f) 1 0 ≡ cond (is_damaged false f) 1 0 + cond (is_foreign f) 1 0 + cond (is_unread f) 1 0
strictly Failed = refl
strictly (Beyond got) = refl
strictly (Read (Whole s) sum true) = refl
strictly (Read (Whole s) sum false) = refl
strictly (Read Summed sum true) = refl
strictly (Read Summed sum false) = refl
strictly (Read Foreign sum true) = refl
strictly (Read Foreign sum false) = refl
strictly (Read Unread sum true) = refl
strictly (Read Unread sum false) = refl
strictly (Read (Damaged f) sum true) = refl
strictly (Read (Damaged f) sum false) = refl

pub strict_count : (tiles : List AuditedTile) → count_of (is_damaged true) tiles ≡ count_of (is_damaged false) tiles + count_of is_foreign tiles + count_of is_unread tiles
strict_count [] = refl
strict_count (t ∷ ts) =
    let all : count_of (is_damaged true) (t ∷ ts) ≡ cond (is_damaged true t.finding) 1 0 + count_of (is_damaged true) ts = sum_by-cons (λ (u : AuditedTile). cond (is_damaged true u.finding) 1 0) t ts in
    let some : count_of (is_damaged false) (t ∷ ts) ≡ cond (is_damaged false t.finding) 1 0 + count_of (is_damaged false) ts = sum_by-cons (λ (u : AuditedTile). cond (is_damaged false u.finding) 1 0) t ts in
    let foreign : count_of is_foreign (t ∷ ts) ≡ cond (is_foreign t.finding) 1 0 + count_of is_foreign ts = sum_by-cons (λ (u : AuditedTile). cond (is_foreign u.finding) 1 0) t ts in
    let unread : count_of is_unread (t ∷ ts) ≡ cond (is_unread t.finding) 1 0 + count_of is_unread ts = sum_by-cons (λ (u : AuditedTile). cond (is_unread u.finding) 1 0) t ts in
    omega (arith, all, some, foreign, unread, strictly t.finding, strict_count ts)
