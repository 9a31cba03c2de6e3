pub mod StepLegal
