use Rattle.tmc_law.proofs.WorkedStandard.{asks_device, asks_interface, asks_control, asks_bulk_out, asks_interrupt_in, asks_configuration, asks_languages, asks_maker, asks_product, asks_configured, asks_alternate}
use Rattle.tmc_law.proofs.worked.standard_requests_are_answered.Goals as goal

pub returns-clause-device : goal.returns-clause-device
returns-clause-device c = asks_device

pub returns-clause-interface : goal.returns-clause-interface
returns-clause-interface c = asks_interface

pub returns-clause-control : goal.returns-clause-control
returns-clause-control c = asks_control

pub returns-clause-bulk_out : goal.returns-clause-bulk_out
returns-clause-bulk_out c = asks_bulk_out

pub returns-clause-interrupt_in : goal.returns-clause-interrupt_in
returns-clause-interrupt_in c = asks_interrupt_in

pub returns-clause-configuration : goal.returns-clause-configuration
returns-clause-configuration c = asks_configuration

pub returns-clause-languages : goal.returns-clause-languages
returns-clause-languages c = asks_languages

pub returns-clause-maker : goal.returns-clause-maker
returns-clause-maker c = asks_maker

pub returns-clause-product : goal.returns-clause-product
returns-clause-product c = asks_product

pub returns-clause-configured : goal.returns-clause-configured
returns-clause-configured c = asks_configured

pub returns-clause-alternate : goal.returns-clause-alternate
returns-clause-alternate c = asks_alternate
