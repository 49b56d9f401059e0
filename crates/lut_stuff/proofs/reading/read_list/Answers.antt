use Rattle.std.proofs.Common.{length}
use Rattle.lut_stuff.proofs.ReadSteps.{read_complete, read_fault, read_ok}
use Rattle.lut_stuff.proofs.reading.read_list.Goals as goal

pub returns-clause-ok : goal.returns-clause-ok
returns-clause-ok c = read_ok (length c.args.out.now) c.args.bytes.now c.read_form.new.out c.read_form.result c.read_form.ensures

pub returns-clause-complete : goal.returns-clause-complete
returns-clause-complete c = read_complete (length c.args.out.now) c.args.bytes.now c.read_form.new.out c.read_form.result c.read_form.ensures c.read_form.auto.out

pub returns-clause-fault : goal.returns-clause-fault
returns-clause-fault c = read_fault (length c.args.out.now) c.args.bytes.now c.read_form.new.out c.read_form.result c.read_form.ensures c.read_form.auto.out
