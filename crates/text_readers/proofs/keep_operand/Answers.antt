use Rattle.text_readers.proofs.KeepLaws.{operand_number_lem, operand_field, operand_outside, operand_none}
use Rattle.text_readers.proofs.keep_operand.Goals as goal

pub returns-in-Number : goal.returns-in-Number
returns-in-Number c = operand_number_lem _ _ _ _ _ _ _ _ c.in-Number.is c.put.ensures c.put-in-Number.ensures

pub returns-in-Field : goal.returns-in-Field
returns-in-Field c = operand_field _ _ _ _ _ _ _ _ c.in-Field.is c.put-in-Field.ensures c.put-in-Field-2.ensures

pub returns-in-OutOfRange : goal.returns-in-OutOfRange
returns-in-OutOfRange c = operand_outside _ _ _ _ _ c.in-OutOfRange.is

pub returns-in-NotAnOperand : goal.returns-in-NotAnOperand
returns-in-NotAnOperand c = operand_none _ _ _ _ _ c.in-NotAnOperand.is
