-- The reason that has a number.
use Rattle.std.specs.Prelude.{◌≡◌, ◌⊎◌, ℕ, ◌<◌, Option, Some, None}
use Rattle.lerc_header.specs.declared.fault.BlobReason.{BlobReason}
use Rattle.reason_names.specs.Names.{blob_name_of}
use Rattle.lerc_c.specs.Names.{name_at}

-- the reason has the number's name, and where there is none, none of the 31 has the number
abbrev pub HasReason : ℕ → Option BlobReason → Type 0
HasReason number (Some reason) = name_at number ≡ blob_name_of reason
HasReason number None = (number ≡ 0) ⊎ (31 < number)
