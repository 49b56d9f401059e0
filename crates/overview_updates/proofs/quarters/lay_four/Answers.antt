use Rattle.overview_updates.specs.Overview.{place_of}
use Rattle.overview_updates.proofs.NextQuarter.{none_at}
use Rattle.overview_updates.proofs.quarters.lay_four.Goals as goal

pub returns-in-Err-clause-refused : goal.returns-in-Err-clause-refused
returns-in-Err-clause-refused c = λ bundle is. c.in-Err.ensures.refused bundle is (none_at bundle (place_of c.args.four.now.place).0 (place_of c.args.four.now.place).1)

pub returns-in-Err-add_quarter-clause-refused : goal.returns-in-Err-add_quarter-clause-refused
returns-in-Err-add_quarter-clause-refused c = λ bundle is.
    let none = none_at bundle (place_of c.args.four.now.place).0 (place_of c.args.four.now.place).1 in
    c.in-Err-add_quarter.ensures.refused bundle is (c.in-Ok.ensures.read bundle is none)

pub returns-in-Err-add_quarter-2-clause-refused : goal.returns-in-Err-add_quarter-2-clause-refused
returns-in-Err-add_quarter-2-clause-refused c = λ bundle is.
    let none = none_at bundle (place_of c.args.four.now.place).0 (place_of c.args.four.now.place).1 in
    c.in-Err-add_quarter-2.ensures.refused bundle is (c.in-Ok-add_quarter.ensures.read bundle is (c.in-Ok.ensures.read bundle is none))

pub returns-clause-read : goal.returns-clause-read
returns-clause-read c = λ bundle is.
    let none = none_at bundle (place_of c.args.four.now.place).0 (place_of c.args.four.now.place).1 in
    c.add_quarter-4.ensures.read bundle is (c.in-Ok-add_quarter-2.ensures.read bundle is (c.in-Ok-add_quarter.ensures.read bundle is (c.in-Ok.ensures.read bundle is none)))

pub returns-clause-refused : goal.returns-clause-refused
returns-clause-refused c = λ bundle is.
    let none = none_at bundle (place_of c.args.four.now.place).0 (place_of c.args.four.now.place).1 in
    c.add_quarter-4.ensures.refused bundle is (c.in-Ok-add_quarter-2.ensures.read bundle is (c.in-Ok-add_quarter.ensures.read bundle is (c.in-Ok.ensures.read bundle is none)))
