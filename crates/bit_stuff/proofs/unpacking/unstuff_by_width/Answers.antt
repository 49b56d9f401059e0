use Rattle.bit_stuff.proofs.unpacking.unstuff_by_width.Goals as goal

pub returns-in-1-clause-read : goal.returns-in-1-clause-read
returns-in-1-clause-read c = rw c.in-1.is c.unstuff_eights.ensures.read

pub returns-in-2-clause-read : goal.returns-in-2-clause-read
returns-in-2-clause-read c = rw c.in-2.is c.unstuff_eights-in-2.ensures.read

pub returns-in-3-clause-read : goal.returns-in-3-clause-read
returns-in-3-clause-read c = rw c.in-3.is c.unstuff_eights-in-3.ensures.read

pub returns-in-4-clause-read : goal.returns-in-4-clause-read
returns-in-4-clause-read c = rw c.in-4.is c.unstuff_eights-in-4.ensures.read

pub returns-in-5-clause-read : goal.returns-in-5-clause-read
returns-in-5-clause-read c = rw c.in-5.is c.unstuff_eights-in-5.ensures.read

pub returns-in-6-clause-read : goal.returns-in-6-clause-read
returns-in-6-clause-read c = rw c.in-6.is c.unstuff_eights-in-6.ensures.read

pub returns-in-7-clause-read : goal.returns-in-7-clause-read
returns-in-7-clause-read c = rw c.in-7.is c.unstuff_eights-in-7.ensures.read

pub returns-in-8-clause-read : goal.returns-in-8-clause-read
returns-in-8-clause-read c = rw c.in-8.is c.unstuff_eights-in-8.ensures.read

pub returns-in-9-clause-read : goal.returns-in-9-clause-read
returns-in-9-clause-read c = rw c.in-9.is c.unstuff_eights-in-9.ensures.read

pub returns-in-10-clause-read : goal.returns-in-10-clause-read
returns-in-10-clause-read c = rw c.in-10.is c.unstuff_eights-in-10.ensures.read

pub returns-in-11-clause-read : goal.returns-in-11-clause-read
returns-in-11-clause-read c = rw c.in-11.is c.unstuff_eights-in-11.ensures.read

pub returns-in-12-clause-read : goal.returns-in-12-clause-read
returns-in-12-clause-read c = rw c.in-12.is c.unstuff_eights-in-12.ensures.read

pub returns-in-13-clause-read : goal.returns-in-13-clause-read
returns-in-13-clause-read c = rw c.in-13.is c.unstuff_eights-in-13.ensures.read

pub returns-in-14-clause-read : goal.returns-in-14-clause-read
returns-in-14-clause-read c = rw c.in-14.is c.unstuff_eights-in-14.ensures.read

pub returns-in-15-clause-read : goal.returns-in-15-clause-read
returns-in-15-clause-read c = rw c.in-15.is c.unstuff_eights-in-15.ensures.read

pub returns-in-16-clause-read : goal.returns-in-16-clause-read
returns-in-16-clause-read c = rw c.in-16.is c.unstuff_eights-in-16.ensures.read

pub returns-in-17-clause-read : goal.returns-in-17-clause-read
returns-in-17-clause-read c = rw c.in-17.is c.unstuff_eights-in-17.ensures.read

pub returns-in-18-clause-read : goal.returns-in-18-clause-read
returns-in-18-clause-read c = rw c.in-18.is c.unstuff_eights-in-18.ensures.read

pub returns-in-19-clause-read : goal.returns-in-19-clause-read
returns-in-19-clause-read c = rw c.in-19.is c.unstuff_eights-in-19.ensures.read

pub returns-in-20-clause-read : goal.returns-in-20-clause-read
returns-in-20-clause-read c = rw c.in-20.is c.unstuff_eights-in-20.ensures.read

pub returns-in-21-clause-read : goal.returns-in-21-clause-read
returns-in-21-clause-read c = rw c.in-21.is c.unstuff_eights-in-21.ensures.read

pub returns-in-22-clause-read : goal.returns-in-22-clause-read
returns-in-22-clause-read c = rw c.in-22.is c.unstuff_eights-in-22.ensures.read

pub returns-in-23-clause-read : goal.returns-in-23-clause-read
returns-in-23-clause-read c = rw c.in-23.is c.unstuff_eights-in-23.ensures.read

pub returns-in-24-clause-read : goal.returns-in-24-clause-read
returns-in-24-clause-read c = rw c.in-24.is c.unstuff_eights-in-24.ensures.read

pub returns-in-25-clause-read : goal.returns-in-25-clause-read
returns-in-25-clause-read c = rw c.in-25.is c.unstuff_eights-in-25.ensures.read
