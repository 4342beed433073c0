pub mod Lines
pub mod Loop
pub mod RoundTrip
pub mod Examples
pub mod Ports
pub mod ExamplesInputs
