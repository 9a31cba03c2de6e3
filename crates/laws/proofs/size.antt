pub mod TextFits
