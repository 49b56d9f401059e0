use Rattle.std.proofs.Common.{arith, inr}
use Rattle.lerc_grammar.proofs.More.{more_fields}
use Rattle.lerc_grammar.proofs.Verdicts.{version_of}
use Rattle.lerc_decode.proofs.CallersArrays.{behind_found, behind_none, behind_wrong, cut_none}
use Rattle.lerc_decode.proofs.over.header_behind.Goals as goal

pub returns-then-blob-size-clause-fault : goal.returns-then-blob-size-clause-fault
returns-then-blob-size-clause-fault c =
    inr (more_fields c.args.blob.now c.args.version c.requires.ten (omega (arith, c.if-blob-size.true, c.head_length-size.ensures)) c.requires.key c.requires.version, c.cut_fault.ensures)

pub returns-then-blob-size-clause-none : goal.returns-then-blob-size-clause-none
returns-then-blob-size-clause-none c = cut_none c.args.blob.now c.args.version c.requires.ten (omega (arith, c.if-blob-size.true, c.head_length-size.ensures)) c.requires.version

pub header_at-requires-clause-version : goal.header_at-requires-clause-version
header_at-requires-clause-version c =
    version_of 10 c.head_length-size.result c.args.blob.now c.args.version (omega arith) c.requires.ten (omega (arith, c.head_length-size.ensures)) (omega (arith, c.if-blob-size.false)) c.requires.version

pub returns-clause-ok : goal.returns-clause-ok
returns-clause-ok c = behind_found c.head_length-size.result c.args.blob.now c.header_at.result c.header_at.ensures.ok

pub returns-clause-fault : goal.returns-clause-fault
returns-clause-fault c =
    behind_wrong c.head_length-size.result c.args.blob.now c.args.version c.header_at.result c.head_length-size.ensures c.requires.ten (omega (arith, c.if-blob-size.false)) c.requires.key c.requires.version c.header_at.ensures.fault

pub returns-clause-none : goal.returns-clause-none
returns-clause-none c =
    behind_none c.head_length-size.result c.args.blob.now c.args.version c.header_at.result c.head_length-size.ensures c.requires.ten (omega (arith, c.if-blob-size.false)) c.requires.version c.header_at.ensures.fault
