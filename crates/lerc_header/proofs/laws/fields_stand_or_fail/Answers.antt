use Rattle.std.proofs.Common.{inl, inr}
use Rattle.lerc_header.proofs.DecidedHeads.{key_or_fault, head_or_fault}
use Rattle.lerc_header.proofs.laws.fields_stand_or_fail.Goals as goal

pub returns-clause-key : goal.returns-clause-key
returns-clause-key c = λ bytes. elim (key_or_fault bytes) [ inl k ↦ inl (k.0, (k.1.key, k.1.version)) | inr f ↦ inr f ]

pub returns-clause-fields : goal.returns-clause-fields
returns-clause-fields c = λ v bytes key version long. elim (head_or_fault v bytes key version long) [ inl h ↦ inl (h.0, (h.1.head, h.1.version)) | inr f ↦ inr f ]
